use Rattle.std.proofs.Common.{◌≡◌, ◌∙◌, ap, inl, inr, ℕ, List, map, string_bytes, subst, sym}
use Rattle.std.proofs.Common.{length}
use Rattle.std.specs.List.{Contains}
use Rattle.std.proofs.lemmas.List.{length-map}
use Rattle.network_commands.specs.problem_rules.Each.{Each}
use Rattle.network_commands.specs.tree_text_rules.Part.{Part}
use Rattle.network_commands.specs.branch_tree.View.{claim_of}
use Rattle.network_commands.specs.tree_text_rules.PartSpelling.{KnowsPart}
use Rattle.network_commands.specs.studio_rules.Merge.{MergeSays, MergeWork}
use Rattle.network_commands.specs.studio_rules.PartFile.{FirstFault, GiveParts}
use Rattle.part_commands.proofs.PartFiles.{as_many}
use Rattle.network_commands.specs.studio_rules.Ending.{Says}
use Rattle.network_commands.specs.studio_rules.declared.status.Status.{Status}
use Rattle.network_commands.proofs.command_files.Cited.{Ends-map, Ends-from, Says-map, Says-told}
use Rattle.part_commands.proofs.merge.say_parts.Goals as goal

pub returns-in-Ok-clause-ends : goal.returns-in-Ok-clause-ends
returns-in-Ok-clause-ends g c =
    let old = g.F.Shelf.state c.args.shelf.now in
    let new = g.F.Shelf.state c.parts_of.new.shelf in
    let p = c.args.problem.now in
    let names = map string_bytes c.args.names.now in
    let claim = claim_of c.args.claim in
    let tree = c.args.tree in
    let ps = c.deref.result.now in
    let give : GiveParts old.held p names ps =
    subst (λ (qs : List Part). GiveParts old.held p names qs) (sym c.deref.ensures.value)
    c.in-Ok.ensures.parts in
    let Q : Status → List ℕ → Type 0 =
    Says (MergeWork old.held names p claim tree) (Contains names) old new in
    Ends-from _ Q c.args.out.now _ _ _ c.in-Ok.ensures.silent
    (Says-told (MergeSays names p claim tree ps) (MergeWork old.held names p claim tree)
    (Contains names) old new
    (λ s lines h. inr (ps, give, h))) c.say_merged.ensures

pub returns-in-Err-clause-ends : goal.returns-in-Err-clause-ends
returns-in-Err-clause-ends g c =
    let old = g.F.Shelf.state c.args.shelf.now in
    let new = g.F.Shelf.state c.parts_of.new.shelf in
    let p = c.args.problem.now in
    let names = map string_bytes c.args.names.now in
    let work : Status → List (List ℕ) → Type 0 =
    MergeWork old.held names p (claim_of c.args.claim) c.args.tree in
    Ends-map _ (Says work (Contains names) old new) c.args.out.now _ _
    (Says-map (FirstFault old.held names p) work (Contains names) (Contains names) old new
    (λ s lines h. inl h) (λ other h. h)) c.in-Err.ensures.told

pub say_merged-requires-clause-count : goal.say_merged-requires-clause-count
say_merged-requires-clause-count g c =
    let held = (g.F.Shelf.state c.args.shelf.now).held in
    let list = c.args.names.now in
    let give : GiveParts held c.args.problem.now (map string_bytes list) c.deref.result.now =
    subst (λ (qs : List Part). GiveParts held c.args.problem.now (map string_bytes list) qs)
    (sym c.deref.ensures.value) c.in-Ok.ensures.parts in
    as_many held c.args.problem.now (map string_bytes list) c.deref.result.now give
    ∙ length-map list string_bytes
