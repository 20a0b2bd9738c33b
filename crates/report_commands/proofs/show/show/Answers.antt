use Rattle.std.proofs.Common.{ℕ, List, subst, sym}
use Rattle.rank_text.specs.problem_rules.Problem.{Problem}
use Rattle.network_commands.specs.studio_rules.Show.{ShowWork}
use Rattle.network_commands.specs.studio_rules.Reading.{AreHeld, GivesProblem, TextSays}
use Rattle.network_commands.specs.studio_rules.Ending.{Tells}
use Rattle.network_commands.specs.studio_rules.declared.status.Status.{Status}
use Rattle.network_commands.proofs.command_files.Cited.{Ends-map, Ends-from, on_text-faults}
use Rattle.network_commands.proofs.command_files.Cited.{on_text-work}
use Rattle.report_commands.proofs.show.show.Goals as goal

pub say_shown-requires : goal.say_shown-requires
say_shown-requires g c = record {
  gives =
      subst (λ (file : List ℕ). GivesProblem file c.in-Ok.problem) (sym c.deref.ensures.value)
      c.in-Ok.ensures.problem;
  some = c.requires.some;
  few = c.requires.few;
}

pub returns-in-Ok-clause-ends : goal.returns-in-Ok-clause-ends
returns-in-Ok-clause-ends g c =
    let old = g.F.Shelf.state c.args.shelf.now in
    let new = g.F.Shelf.state c.plant_of.new.shelf in
    let name = c.args.file.now in
    let work : List ℕ → Problem → Status → List (List ℕ) → Type 0 =
    ShowWork c.args.effort.budget in
    let Q : Status → List ℕ → Type 0 = TextSays work name old new in
    let held =
    subst (λ (file : List ℕ). AreHeld (old.held name) file) (sym c.deref.ensures.value)
    c.in-Ok.ensures.held in
    let gives =
    subst (λ (file : List ℕ). GivesProblem file c.in-Ok.problem) (sym c.deref.ensures.value)
    c.in-Ok.ensures.problem in
    Ends-from (Tells (work c.deref.result.now c.in-Ok.problem)) Q c.args.out.now _ _ _
    c.in-Ok.ensures.silent
    (on_text-work work old new name c.deref.result.now c.in-Ok.problem held gives)
    c.say_shown.ensures

pub returns-in-Err-clause-ends : goal.returns-in-Err-clause-ends
returns-in-Err-clause-ends g c =
    let old = g.F.Shelf.state c.args.shelf.now in
    let new = g.F.Shelf.state c.plant_of.new.shelf in
    let work : List ℕ → Problem → Status → List (List ℕ) → Type 0 =
    ShowWork c.args.effort.budget in
    let Q : Status → List ℕ → Type 0 = TextSays work c.args.file.now old new in
    Ends-map _ Q c.args.out.now _ _ (on_text-faults work old new c.args.file.now)
    c.in-Err.ensures.told
