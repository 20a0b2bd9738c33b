use Rattle.std.proofs.Common.{◌≡◌, ap, inl, inr, ℕ, List}
use Rattle.command_files.specs.tree_reading.Said.{said_by}
use Rattle.command_files.specs.studio_rules.HeadedFile.{OnHeaded, HeadedFault, HeadedSays}
use Rattle.command_files.specs.studio_rules.Check.{CheckWork}
use Rattle.command_files.specs.studio_rules.Ending.{Says}
use Rattle.command_files.specs.studio_rules.declared.status.Status.{Status}
use Rattle.command_files.proofs.Cited.{Ends-map, Ends-from, Says-told, on_second-faults}
use Rattle.structure_commands.proofs.check.say_tree.Goals as goal

pub returns-in-Ok-clause-ends : goal.returns-in-Ok-clause-ends
returns-in-Ok-clause-ends g c =
    let old = g.F.Shelf.state c.args.shelf.now in
    let new = g.F.Shelf.state c.headed_of.new.shelf in
    let p = c.args.problem.now in
    let name = c.args.name.now in
    let read = c.in-Ok.ensures.tree in
    let Q : Status → List ℕ → Type 0 =
    Says (OnHeaded CheckWork old.held name p) (λ other. other ≡ name) old new in
    Ends-from _ Q c.args.out.now _ _ _ c.in-Ok.ensures.silent
    (Says-told (CheckWork p (said_by c.in-Ok.text))
    (OnHeaded CheckWork old.held name p) (λ other. other ≡ name) old new
    (λ s lines h. (read.0, read.1, inr (said_by c.in-Ok.text, read.2, h))))
    c.say_checked.ensures

pub returns-in-Err-clause-ends : goal.returns-in-Err-clause-ends
returns-in-Err-clause-ends g c =
    let old = g.F.Shelf.state c.args.shelf.now in
    let new = g.F.Shelf.state c.headed_of.new.shelf in
    let p = c.args.problem.now in
    let name = c.args.name.now in
    let Q : Status → List ℕ → Type 0 =
    Says (OnHeaded CheckWork old.held name p) (λ other. other ≡ name) old new in
    Ends-map _ Q c.args.out.now _ _
    (on_second-faults (HeadedSays CheckWork name) (HeadedFault name p) old new name p
    (λ file s lines h. inl h)) c.in-Err.ensures.told
