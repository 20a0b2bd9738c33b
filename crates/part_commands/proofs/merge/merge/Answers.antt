use Rattle.std.proofs.Common.{◌≡◌, ◌⊎◌, ap, inl, inr, ℕ, List, map, string_bytes}
use Rattle.std.specs.List.{Contains}
use Rattle.network_commands.specs.studio_rules.Reading.{FileFaults, OnFile}
use Rattle.network_commands.specs.studio_rules.TreeFile.{OnTree}
use Rattle.network_commands.specs.studio_rules.Merge.{MergeWork}
use Rattle.part_commands.proofs.PartFiles.{file_told}
use Rattle.network_commands.specs.studio_rules.Ending.{Says}
use Rattle.network_commands.specs.studio_rules.declared.status.Status.{Status}
use Rattle.network_commands.proofs.command_files.Cited.{Ends-map, Ends-from, Says-map}
use Rattle.network_commands.proofs.command_files.Cited.{keeps_through}
use Rattle.part_commands.proofs.merge.merge.Goals as goal

pub returns-in-Ok-clause-ends : goal.returns-in-Ok-clause-ends
returns-in-Ok-clause-ends g c =
    let old = g.F.Shelf.state c.args.shelf.now in
    let mid = g.F.Shelf.state c.problem_of.new.shelf in
    let new = g.F.Shelf.state c.say_tree.new.shelf in
    let file = c.args.file.now in
    let tree = c.args.tree.now in
    let names = map string_bytes c.args.parts.now in
    let Q : Status → List ℕ → Type 0 =
    Says (OnFile (OnTree (MergeWork old.held names) old.held tree) old.held file)
    (λ other. (other ≡ file) ⊎ ((other ≡ tree) ⊎ Contains names other)) old new in
    Ends-from _ Q c.args.out.now _ _ _ c.in-Ok.ensures.silent
    (file_told names c.in-Ok.problem old mid new c.problem_of.ensures.keeps.held
    c.problem_of.ensures.keeps.later file tree c.in-Ok.ensures.problem) c.say_tree.ensures.ends

pub returns-in-Err-clause-ends : goal.returns-in-Err-clause-ends
returns-in-Err-clause-ends g c =
    let old = g.F.Shelf.state c.args.shelf.now in
    let new = g.F.Shelf.state c.problem_of.new.shelf in
    let file = c.args.file.now in
    let tree = c.args.tree.now in
    let names = map string_bytes c.args.parts.now in
    let work : Status → List (List ℕ) → Type 0 =
    OnFile (OnTree (MergeWork old.held names) old.held tree) old.held file in
    Ends-map _
    (Says work (λ other. (other ≡ file) ⊎ ((other ≡ tree) ⊎ Contains names other)) old new)
    c.args.out.now _ _
    (Says-map (FileFaults old.held file) work (λ other. other ≡ file)
    (λ other. (other ≡ file) ⊎ ((other ≡ tree) ⊎ Contains names other)) old new
    (λ s lines h. (h.0, h.1, inl h.2)) (λ other e. inl e)) c.in-Err.ensures.told

pub returns-in-Ok-clause-keeps : goal.returns-in-Ok-clause-keeps
returns-in-Ok-clause-keeps g c = keeps_through _ _ _ c.in-Ok.ensures.keeps c.say_tree.ensures.keeps
