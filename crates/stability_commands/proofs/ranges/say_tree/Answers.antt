use Rattle.std.proofs.Common.{◌≡◌, inl, inr, ℕ, List}
use Rattle.stability.specs.branch_tree.View.{claim_of}
use Rattle.network_commands.specs.tree_reading.Said.{said_by}
use Rattle.network_commands.specs.studio_rules.HeadedFile.{AnyHead, OnHeaded, HeadedFault}
use Rattle.network_commands.specs.studio_rules.HeadedFile.{HeadedSays}
use Rattle.network_commands.specs.studio_rules.Network.{OnNetwork}
use Rattle.network_commands.specs.studio_rules.StableTable.{RangesWork}
use Rattle.network_commands.specs.studio_rules.Ending.{Says}
use Rattle.network_commands.specs.studio_rules.declared.status.Status.{Status}
use Rattle.network_commands.proofs.command_files.Cited.{Ends-map, Ends-from, Says-told}
use Rattle.network_commands.proofs.command_files.Cited.{on_second-faults}
use Rattle.stability_commands.proofs.ranges.say_tree.Goals as goal

pub returns-in-Ok-clause-ends : goal.returns-in-Ok-clause-ends
returns-in-Ok-clause-ends g c =
    let old = g.F.Shelf.state c.args.shelf.now in
    let new = g.F.Shelf.state c.headed_of.new.shelf in
    let p = c.args.problem.now in
    let name = c.args.asked.tree.now in
    let read = c.in-Ok.ensures.tree in
    let work = AnyHead (OnNetwork (RangesWork c.args.asked.effort.budget)) in
    let Q : Status → List ℕ → Type 0 =
    Says (OnHeaded work old.held name p) (λ other. other ≡ name) old new in
    Ends-from _ Q c.args.out.now _ _ _ c.in-Ok.ensures.silent
    (Says-told
    (OnNetwork (RangesWork c.args.asked.effort.budget) p (claim_of c.in-Ok.text.claim)
    c.in-Ok.text.tree)
    (OnHeaded work old.held name p) (λ other. other ≡ name) old new
    (λ s lines h. (read.0, read.1, inr (said_by c.in-Ok.text, read.2, h))))
    c.say_claimed.ensures

pub returns-in-Err-clause-ends : goal.returns-in-Err-clause-ends
returns-in-Err-clause-ends g c =
    let old = g.F.Shelf.state c.args.shelf.now in
    let new = g.F.Shelf.state c.headed_of.new.shelf in
    let p = c.args.problem.now in
    let name = c.args.asked.tree.now in
    let work = AnyHead (OnNetwork (RangesWork c.args.asked.effort.budget)) in
    let Q : Status → List ℕ → Type 0 =
    Says (OnHeaded work old.held name p) (λ other. other ≡ name) old new in
    Ends-map _ Q c.args.out.now _ _
    (on_second-faults (HeadedSays work name) (HeadedFault name p) old new name p
    (λ file s lines h. inl h)) c.in-Err.ensures.told
