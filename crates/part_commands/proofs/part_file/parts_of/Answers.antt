use Rattle.std.proofs.Common.{◌≡◌, ◌<◌, ◌+◌, ◌∷◌, [], ap, refl, sym, ◌∙◌, subst, ℕ, List, inl, map}
use Rattle.std.proofs.Common.{length, nat_lt, get_or, arith, string_bytes}
use Rattle.std.specs.List.{Contains}
use Rattle.std.proofs.lemmas.List.{length-map, get_or-map}
use Rattle.network_commands.specs.text_rules.Outside.{Told}
use Rattle.network_commands.specs.problem_rules.Each.{Each}
use Rattle.network_commands.proofs.text_laws.Cited.{each-append}
use Rattle.network_commands.specs.tree_text_rules.Part.{Part}
use Rattle.network_commands.specs.tree_text_rules.PartSpelling.{KnowsPart}
use Rattle.network_commands.specs.studio_rules.Reading.{AreHeld}
use Rattle.network_commands.specs.studio_rules.PartFile.{FirstFault, GivesPart}
use Rattle.part_commands.proofs.PartFiles.{GiveBefore, one_given, fault_told}
use Rattle.network_commands.specs.studio_rules.Ending.{Says}
use Rattle.network_commands.specs.studio_rules.declared.status.Status.{Status}
use Rattle.network_commands.specs.studio_rules.declared.status.Status.TheVariants.{Memory}
use Rattle.network_commands.proofs.command_files.Cited.{Ends-from, only_in, keeps_through}
use Rattle.part_commands.proofs.part_file.parts_of.Goals as goal

pub returns-in_default-clause-told : goal.returns-in_default-clause-told
returns-in_default-clause-told g c =
    let old = g.F.Shelf.state c.args.shelf.now in
    let new = g.F.Shelf.state c.part_of.new.shelf in
    let names = map string_bytes c.args.names.now in
    let Q : Status → List ℕ → Type 0 =
    Says (FirstFault old.held names c.args.problem.now) (Contains names) old new in
    let silent = c.in-Ok.ensures.silent ∙ c.reading.invariant.silent in
    Ends-from _ Q c.args.out.now _ _ _ silent (only_in Q Memory _ ([], inl refl, refl))
    c.say_memory.ensures

pub returns-in-Err-clause-told : goal.returns-in-Err-clause-told
returns-in-Err-clause-told g c =
    let old = g.F.Shelf.state c.args.shelf.now in
    let mid = g.F.Shelf.state c.reading.shelf in
    let new = g.F.Shelf.state c.part_of.new.shelf in
    let list = c.args.names.now in
    let names = map string_bytes list in
    let place = c.reading.name-index in
    let name = c.as_str.result.now in
    let count = length-map list string_bytes in
    let lt : place < length names = omega (arith, count, c.reading-test.true) in
    let here : name ≡ get_or names place name =
    c.as_str.ensures.value
    ∙ (ap string_bytes c.name-item.is
    ∙ sym (get_or-map string_bytes list place c.name-item.result name c.reading-test.true)) in
    let Q : Status → List ℕ → Type 0 =
    Says (FirstFault old.held names c.args.problem.now) (Contains names) old new in
    Ends-from _ Q c.args.out.now _ _ _ c.reading.invariant.silent
    (fault_told names c.args.problem.now old mid new c.reading.invariant.keeps.held
    c.reading.invariant.keeps.later (nat_lt 1 (length list)) place name c.reading.parts.items
    (ap (λ (n : ℕ). nat_lt 1 n) (sym count)) lt here c.reading.invariant.given)
    c.in-Err.ensures.told

pub reading-preserved : goal.reading-preserved
reading-preserved g c =
    let held = (g.F.Shelf.state c.args.shelf.now).held in
    let p = c.args.problem.now in
    let list = c.args.names.now in
    let names = map string_bytes list in
    let place = c.reading.name-index in
    let name = c.as_str.result.now in
    let part = c.in-Ok.part in
    let count = length-map list string_bytes in
    let lt : place < length names = omega (arith, count, c.reading-test.true) in
    let here : name ≡ get_or names place name =
    c.as_str.ensures.value
    ∙ (ap string_bytes c.name-item.is
    ∙ sym (get_or-map string_bytes list place c.name-item.result name c.reading-test.true)) in
    let read = c.in-Ok.ensures.part in
    let one : (file : List ℕ) × AreHeld (held name) file × GivesPart p file part = (
      read.0,
      subst (λ (o : Told). AreHeld o read.0) (c.reading.invariant.keeps.held name) read.1,
      read.2,
    ) in
    record {
      given =
          subst (λ (ps : List Part). GiveBefore held p names (place + 1) ps)
          (sym c.in-Ok-push.ensures.items)
          (one_given held p names place c.reading.parts.items name part lt here
          c.reading.invariant.given one);
      known =
          subst (λ (ps : List Part). Each (KnowsPart p) ps) (sym c.in-Ok-push.ensures.items)
          (each-append (KnowsPart p) c.reading.parts.items (part ∷ []) c.reading.invariant.known
          (c.in-Ok.ensures.known, tt));
      silent = c.in-Ok.ensures.silent ∙ c.reading.invariant.silent;
      keeps = keeps_through _ _ _ c.reading.invariant.keeps c.in-Ok.ensures.keeps;
    }
