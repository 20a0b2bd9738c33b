use Rattle.std.proofs.Common.{subst}
use Rattle.tree_text.specs.problem_rules.Problem.{Problem}
use Rattle.command_files.specs.studio_rules.Summary.{SummaryWork}
use Rattle.command_files.specs.studio_rules.Trial.{TrialWork}
use Rattle.command_files.specs.studio_rules.Ending.{Tells}
use Rattle.command_files.specs.studio_rules.declared.status.Status.TheVariants.{Memory}
use Rattle.command_files.proofs.Cited.{Ends-map, Tells-map, Tells-memory, only_in}
use Rattle.searches.proofs.trial.trial.Goals as goal

pub returns-in-Ok : goal.returns-in-Ok
returns-in-Ok g c =
    Ends-map _ _ c.args.out.now _ _
    (Tells-map (SummaryWork c.args.effort.budget c.in-Ok.problem)
    (TrialWork c.args.number c.args.units c.args.effort.budget)
    (λ s lines h. subst (λ (p : Problem). SummaryWork c.args.effort.budget p s lines)
    c.in-Ok.ensures h)) c.say_summed.ensures

pub returns-in-Err : goal.returns-in-Err
returns-in-Err g c =
    Ends-map _ _ c.args.out.now _ _
    (only_in (Tells (TrialWork c.args.number c.args.units c.args.effort.budget)) Memory _
    (Tells-memory (TrialWork c.args.number c.args.units c.args.effort.budget)))
    c.say_memory.ensures
