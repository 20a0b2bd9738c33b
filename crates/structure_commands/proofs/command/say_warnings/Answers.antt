use Rattle.std.proofs.Common.{◌∙◌, [], refl, inl, ℕ, List, codes}
use Rattle.command_files.specs.studio_rules.Lines.{line}
use Rattle.command_files.specs.studio_rules.Lint.{LintWork}
use Rattle.command_files.specs.studio_rules.Ending.{Tells}
use Rattle.command_files.specs.studio_rules.declared.status.Status.{Status}
use Rattle.command_files.specs.studio_rules.declared.status.Status.TheVariants.{Done, Memory}
use Rattle.command_files.specs.report_rules.Lint.{lint_lines}
use Rattle.command_files.proofs.Cited.{Ends-map, only_in}
use Rattle.structure_commands.proofs.command.say_warnings.Goals as goal

pub returns-in-Ok : goal.returns-in-Ok
returns-in-Ok g c =
    let p = c.args.problem.now in
    let file = c.args.bytes.now in
    let Q : Status → List ℕ → Type 0 = Tells (LintWork file p) in
    let told = c.in-Ok.ensures in
    Ends-map _ Q c.args.out.now _ _
    (only_in Q Done c.deref.result.now
    (lint_lines p told.0 file, (told.0, told.1, refl), c.deref.ensures.value ∙ told.2))
    c.say_text.ensures

pub returns-in-Err : goal.returns-in-Err
returns-in-Err g c =
    let Q : Status → List ℕ → Type 0 = Tells (LintWork c.args.bytes.now c.args.problem.now) in
    Ends-map _ Q c.args.out.now _ _ (only_in Q Memory (line (codes "memory")) ([], inl refl, refl))
    c.say_memory.ensures
