use Rattle.std.proofs.Common.{◌≡◌, ℕ, List, subst, sym}
use Rattle.command_files.specs.studio_rules.Lint.{LintWork}
use Rattle.command_files.specs.studio_rules.Reading.{AreHeld, GivesProblem, TextSays}
use Rattle.command_files.specs.studio_rules.Ending.{Tells}
use Rattle.command_files.specs.studio_rules.declared.status.Status.{Status}
use Rattle.command_files.proofs.Cited.{Ends-map, Ends-from, on_text-faults, on_text-work}
use Rattle.structure_commands.proofs.command.lint.Goals as goal

pub say_warnings-requires : goal.say_warnings-requires
say_warnings-requires g c =
    subst (λ (file : List ℕ). GivesProblem file c.in-Ok.problem) (sym c.deref.ensures.value)
    c.in-Ok.ensures.problem

pub returns-in-Ok-clause-ends : goal.returns-in-Ok-clause-ends
returns-in-Ok-clause-ends g c =
    let old = g.F.Shelf.state c.args.shelf.now in
    let new = g.F.Shelf.state c.plant_of.new.shelf in
    let name = c.args.file.now in
    let Q : Status → List ℕ → Type 0 = TextSays LintWork name old new in
    let held =
    subst (λ (file : List ℕ). AreHeld (old.held name) file) (sym c.deref.ensures.value)
    c.in-Ok.ensures.held in
    let gives =
    subst (λ (file : List ℕ). GivesProblem file c.in-Ok.problem) (sym c.deref.ensures.value)
    c.in-Ok.ensures.problem in
    Ends-from (Tells (LintWork c.deref.result.now c.in-Ok.problem)) Q c.args.out.now _ _ _
    c.in-Ok.ensures.silent
    (on_text-work LintWork old new name c.deref.result.now c.in-Ok.problem held gives)
    c.say_warnings.ensures

pub returns-in-Err-clause-ends : goal.returns-in-Err-clause-ends
returns-in-Err-clause-ends g c =
    let old = g.F.Shelf.state c.args.shelf.now in
    let new = g.F.Shelf.state c.plant_of.new.shelf in
    let Q : Status → List ℕ → Type 0 = TextSays LintWork c.args.file.now old new in
    Ends-map _ Q c.args.out.now _ _ (on_text-faults LintWork old new c.args.file.now)
    c.in-Err.ensures.told
