use Rattle.command_files.specs.studio_rules.Ending.{Tells}
use Rattle.command_files.specs.studio_rules.declared.status.Status.TheVariants.{Memory}
use Rattle.command_files.proofs.Cited.{Ends-map, Tells-memory, only_in}
use Rattle.command_files.specs.studio_rules.Periods.{PeriodsWork}
use Rattle.searches.proofs.least.say_least.Goals as goal

pub returns-in-Err : goal.returns-in-Err
returns-in-Err g c =
    Ends-map _ _ c.args.out.now _ _
    (only_in (Tells (PeriodsWork c.args.effort.budget c.args.problem.now c.args.plan.now))
    Memory _
    (Tells-memory (PeriodsWork c.args.effort.budget c.args.problem.now c.args.plan.now)))
    c.say_memory.ensures
