use Rattle.std.proofs.Common.{◌≡◌, ◌⊎◌, ap, inl, inr, ℕ, List, map, string_bytes}
use Rattle.std.specs.List.{Contains}
use Rattle.network_commands.specs.branch_tree.View.{claim_of}
use Rattle.network_commands.specs.studio_rules.TreeFile.{OnTree, TreeFault, TreeFaults, TreeSays}
use Rattle.network_commands.specs.studio_rules.Merge.{MergeWork}
use Rattle.part_commands.proofs.PartFiles.{tree_told}
use Rattle.network_commands.specs.studio_rules.Ending.{Says}
use Rattle.network_commands.specs.studio_rules.declared.status.Status.{Status}
use Rattle.network_commands.proofs.command_files.Cited.{Ends-map, Ends-from, Says-map}
use Rattle.network_commands.proofs.command_files.Cited.{keeps_through}
use Rattle.part_commands.proofs.merge.say_tree.Goals as goal

pub returns-in-Ok-clause-ends : goal.returns-in-Ok-clause-ends
returns-in-Ok-clause-ends g c =
    let old = g.F.Shelf.state c.args.shelf.now in
    let mid = g.F.Shelf.state c.tree_of.new.shelf in
    let new = g.F.Shelf.state c.say_parts.new.shelf in
    let p = c.args.problem.now in
    let name = c.args.name.now in
    let names = map string_bytes c.args.names.now in
    let Q : Status → List ℕ → Type 0 =
    Says (OnTree (MergeWork old.held names) old.held name p)
    (λ other. (other ≡ name) ⊎ Contains names other) old new in
    Ends-from _ Q c.args.out.now _ _ _ c.in-Ok.ensures.silent
    (tree_told names p old mid new c.tree_of.ensures.keeps.held c.tree_of.ensures.keeps.later name
    (claim_of c.in-Ok.claim) c.in-Ok.tree c.in-Ok.ensures.tree) c.say_parts.ensures.ends

pub returns-in-Err-clause-ends : goal.returns-in-Err-clause-ends
returns-in-Err-clause-ends g c =
    let old = g.F.Shelf.state c.args.shelf.now in
    let new = g.F.Shelf.state c.tree_of.new.shelf in
    let p = c.args.problem.now in
    let name = c.args.name.now in
    let names = map string_bytes c.args.names.now in
    let work : Status → List (List ℕ) → Type 0 =
    OnTree (MergeWork old.held names) old.held name p in
    Ends-map _ (Says work (λ other. (other ≡ name) ⊎ Contains names other) old new) c.args.out.now _
    _
    (Says-map (TreeFaults old.held name p) work (λ other. other ≡ name)
    (λ other. (other ≡ name) ⊎ Contains names other) old new (λ s lines h. (h.0, h.1, inl h.2))
    (λ other e. inl e)) c.in-Err.ensures.told

pub returns-in-Ok-clause-keeps : goal.returns-in-Ok-clause-keeps
returns-in-Ok-clause-keeps g c = keeps_through _ _ _ c.in-Ok.ensures.keeps c.say_parts.ensures.keeps
