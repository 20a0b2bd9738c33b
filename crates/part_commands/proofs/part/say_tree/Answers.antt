use Rattle.std.proofs.Common.{◌≡◌, ap, inl, inr, ℕ, List}
use Rattle.network_commands.specs.branch_tree.View.{claim_of}
use Rattle.network_commands.specs.studio_rules.TreeFile.{OnTree, TreeFault, TreeSays}
use Rattle.network_commands.specs.studio_rules.Part.{ClaimSays}
use Rattle.network_commands.specs.studio_rules.Ending.{Says}
use Rattle.network_commands.specs.studio_rules.declared.status.Status.{Status}
use Rattle.network_commands.proofs.command_files.Cited.{Ends-map, Ends-from, Says-told}
use Rattle.network_commands.proofs.command_files.Cited.{on_second-faults}
use Rattle.part_commands.proofs.part.say_tree.Goals as goal

pub returns-in-Ok-clause-ends : goal.returns-in-Ok-clause-ends
returns-in-Ok-clause-ends g c =
    let old = g.F.Shelf.state c.args.shelf.now in
    let new = g.F.Shelf.state c.tree_of.new.shelf in
    let p = c.args.problem.now in
    let name = c.args.name.now in
    let read = c.in-Ok.ensures.tree in
    let work = ClaimSays c.args.effort.budget c.args.start.now.inside c.args.start.now.outside in
    let Q : Status → List ℕ → Type 0 =
    Says (OnTree work old.held name p) (λ other. other ≡ name) old new in
    Ends-from _ Q c.args.out.now _ _ _ c.in-Ok.ensures.silent
    (Says-told (work p (claim_of c.in-Ok.claim) c.in-Ok.tree) (OnTree work old.held name p)
    (λ other. other ≡ name) old new
    (λ s lines h. (read.0, read.1, inr (claim_of c.in-Ok.claim, c.in-Ok.tree, read.2, h))))
    c.say_claimed.ensures

pub returns-in-Err-clause-ends : goal.returns-in-Err-clause-ends
returns-in-Err-clause-ends g c =
    let old = g.F.Shelf.state c.args.shelf.now in
    let new = g.F.Shelf.state c.tree_of.new.shelf in
    let p = c.args.problem.now in
    let name = c.args.name.now in
    let work = ClaimSays c.args.effort.budget c.args.start.now.inside c.args.start.now.outside in
    let Q : Status → List ℕ → Type 0 =
    Says (OnTree work old.held name p) (λ other. other ≡ name) old new in
    Ends-map _ Q c.args.out.now _ _
    (on_second-faults (TreeSays work name) (TreeFault name p) old new name p
    (λ file s lines h. inl h)) c.in-Err.ensures.told
