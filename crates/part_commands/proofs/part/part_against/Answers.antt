use Rattle.std.proofs.Common.{◌≡◌, ◌⊎◌, ap, ℕ, List}
use Rattle.network_commands.specs.studio_rules.Reading.{OnFile}
use Rattle.network_commands.specs.studio_rules.Part.{AgainstWork}
use Rattle.part_commands.proofs.Behind.{file_faults, file_work}
use Rattle.network_commands.specs.studio_rules.Ending.{Says}
use Rattle.network_commands.specs.studio_rules.declared.status.Status.{Status}
use Rattle.network_commands.proofs.command_files.Cited.{Ends-map, Ends-from, keeps_through}
use Rattle.part_commands.proofs.part.part_against.Goals as goal

pub returns-in-Ok-clause-ends : goal.returns-in-Ok-clause-ends
returns-in-Ok-clause-ends g c =
    let old = g.F.Shelf.state c.args.shelf.now in
    let mid = g.F.Shelf.state c.problem_of.new.shelf in
    let new = g.F.Shelf.state c.say_from_against.new.shelf in
    let file = c.args.file.now in
    let tree = c.args.tree.now in
    let Q : Status → List ℕ → Type 0 =
    Says
    (OnFile
    (AgainstWork c.args.effort.budget old.held tree c.args.inside.now c.args.outside.now)
    old.held file) (λ other. (other ≡ file) ⊎ (other ≡ tree)) old new in
    Ends-from _ Q c.args.out.now _ _ _ c.in-Ok.ensures.silent
    (file_work c.args.effort.budget file tree c.args.inside.now c.args.outside.now old mid new
    c.in-Ok.problem c.in-Ok.ensures.problem c.problem_of.ensures.keeps.held
    c.problem_of.ensures.keeps.later) c.say_from_against.ensures.ends

pub returns-in-Err-clause-ends : goal.returns-in-Err-clause-ends
returns-in-Err-clause-ends g c =
    let old = g.F.Shelf.state c.args.shelf.now in
    let new = g.F.Shelf.state c.problem_of.new.shelf in
    let file = c.args.file.now in
    let tree = c.args.tree.now in
    let Q : Status → List ℕ → Type 0 =
    Says
    (OnFile
    (AgainstWork c.args.effort.budget old.held tree c.args.inside.now c.args.outside.now)
    old.held file) (λ other. (other ≡ file) ⊎ (other ≡ tree)) old new in
    Ends-map _ Q c.args.out.now _ _
    (file_faults c.args.effort.budget file tree c.args.inside.now c.args.outside.now old new)
    c.in-Err.ensures.told

pub returns-in-Ok-clause-keeps : goal.returns-in-Ok-clause-keeps
returns-in-Ok-clause-keeps g c =
    keeps_through _ _ _ c.in-Ok.ensures.keeps c.say_from_against.ensures.keeps
