use Rattle.std.proofs.Common.{◌∙◌, inl, inr}
use Rattle.command_files.specs.studio_rules.Lines.{line}
use Rattle.command_files.specs.studio_rules.Axioms.{breaks_line}
use Rattle.command_files.specs.studio_rules.Ending.{Only, OrMemory}
use Rattle.command_files.specs.studio_rules.declared.status.Status.TheVariants.{Refused}
use Rattle.command_files.proofs.Cited.{Ends-map}
use Rattle.structure_commands.proofs.axioms.say_breaks.Goals as goal

pub returns-in-Ok : goal.returns-in-Ok
returns-in-Ok g c =
    Ends-map (Only Refused c.deref.result.now)
    (OrMemory (Only Refused (line (breaks_line c.args.broken c.args.name.now)))) c.args.out.now _ _
    (λ s t p. inl (p.0, p.1 ∙ c.deref.ensures.value ∙ c.in-Ok.ensures)) c.say.ensures

pub returns-in-Err : goal.returns-in-Err
returns-in-Err g c =
    Ends-map _ (OrMemory (Only Refused (line (breaks_line c.args.broken c.args.name.now))))
    c.args.out.now _ _ (λ s t p. inr p) c.say_memory.ensures
