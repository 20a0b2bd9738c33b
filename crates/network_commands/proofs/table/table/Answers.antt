use Rattle.std.proofs.Common.{◌≡◌, ℕ, List}
use Rattle.command_files.specs.studio_rules.Reading.{TwoFilesSay}
use Rattle.command_files.specs.studio_rules.HeadedFile.{AnyHead, OnHeaded, HeadedSays}
use Rattle.command_files.specs.studio_rules.Network.{OnNetwork}
use Rattle.command_files.specs.studio_rules.Table.{TableWork}
use Rattle.command_files.specs.studio_rules.Ending.{Says}
use Rattle.command_files.specs.studio_rules.declared.status.Status.{Status}
use Rattle.command_files.proofs.Cited.{Ends-map, Ends-from, on_both-faults, on_both-work}
use Rattle.command_files.proofs.Cited.{keeps_through}
use Rattle.network_commands.proofs.table.table.Goals as goal

pub returns-in-Ok-clause-ends : goal.returns-in-Ok-clause-ends
returns-in-Ok-clause-ends g c =
    let old = g.F.Shelf.state c.args.shelf.now in
    let mid = g.F.Shelf.state c.problem_of.new.shelf in
    let new = g.F.Shelf.state c.say_tree.new.shelf in
    let file = c.args.file.now in
    let tree = c.args.tree.now in
    let work = AnyHead (OnNetwork TableWork) in
    let P : Status → List ℕ → Type 0 =
    Says (OnHeaded work mid.held tree c.in-Ok.problem) (λ other. other ≡ tree) mid new in
    let Q : Status → List ℕ → Type 0 = TwoFilesSay (OnHeaded work) file tree old new in
    Ends-from P Q c.args.out.now _ _ _ c.in-Ok.ensures.silent
    (on_both-work (HeadedSays work tree) file tree old mid new c.in-Ok.problem
    c.in-Ok.ensures.problem (c.problem_of.ensures.keeps.held tree)
    c.problem_of.ensures.keeps.later) c.say_tree.ensures.ends

pub returns-in-Err-clause-ends : goal.returns-in-Err-clause-ends
returns-in-Err-clause-ends g c =
    let old = g.F.Shelf.state c.args.shelf.now in
    let new = g.F.Shelf.state c.problem_of.new.shelf in
    let file = c.args.file.now in
    let tree = c.args.tree.now in
    let work = AnyHead (OnNetwork TableWork) in
    let Q : Status → List ℕ → Type 0 = TwoFilesSay (OnHeaded work) file tree old new in
    Ends-map _ Q c.args.out.now _ _
    (on_both-faults (HeadedSays work tree) file tree old new) c.in-Err.ensures.told

pub returns-in-Ok-clause-keeps : goal.returns-in-Ok-clause-keeps
returns-in-Ok-clause-keeps g c = keeps_through _ _ _ c.in-Ok.ensures.keeps c.say_tree.ensures.keeps
