use Rattle.std.proofs.Common.{[], refl, inl, List, ℕ}
use Rattle.text_lines.specs.text_rules.Canonical.{canonical_lines}
use Rattle.text_lines.specs.problem_rules.Generated.{generated}
use Rattle.command_files.specs.studio_rules.Lines.{text_of}
use Rattle.command_files.specs.studio_rules.Make.{MakeWork}
use Rattle.command_files.specs.studio_rules.Ending.{Tells}
use Rattle.command_files.specs.studio_rules.declared.status.Status.{Status}
use Rattle.command_files.specs.studio_rules.declared.status.Status.TheVariants.{Done}
use Rattle.command_files.proofs.Cited.{Ends-map, only_or_memory_in}
use Rattle.structure_commands.proofs.make.make.Goals as goal

pub returns : goal.returns
returns g c =
    let lines : List (List ℕ) = canonical_lines (generated c.args.number c.args.units) in
    let Q : Status → List ℕ → Type 0 = Tells (MakeWork c.args.number c.args.units) in
    Ends-map _ Q c.args.out.now _ _
    (only_or_memory_in Q Done (text_of lines) (lines, (refl, refl), refl) ([], inl refl, refl))
    (c.say_made.ensures lines c.made_text.ensures)
