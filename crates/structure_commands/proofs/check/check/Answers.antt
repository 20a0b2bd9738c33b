use Rattle.std.proofs.Common.{◌≡◌, ap, ℕ, List}
use Rattle.command_files.specs.studio_rules.Reading.{TwoFilesSay}
use Rattle.command_files.specs.studio_rules.HeadedFile.{OnHeaded, HeadedSays}
use Rattle.command_files.specs.studio_rules.Check.{CheckWork}
use Rattle.command_files.specs.studio_rules.Ending.{Says}
use Rattle.command_files.specs.studio_rules.declared.status.Status.{Status}
use Rattle.command_files.proofs.Cited.{Ends-map, Ends-from, on_both-faults, on_both-work}
use Rattle.command_files.proofs.Cited.{keeps_through}
use Rattle.structure_commands.proofs.Best.{done_ends}
use Rattle.structure_commands.proofs.check.check.Goals as goal

pub returns-in-Ok : goal.returns-in-Ok
returns-in-Ok g c =
    let old = g.F.Shelf.state c.args.shelf.now in
    let mid = g.F.Shelf.state c.problem_of.new.shelf in
    let new = g.F.Shelf.state c.say_tree.new.shelf in
    let file = c.args.file.now in
    let tree = c.args.tree.now in
    let P : Status → List ℕ → Type 0 =
    Says (OnHeaded CheckWork mid.held tree c.in-Ok.problem) (λ other. other ≡ tree) mid new in
    let Q : Status → List ℕ → Type 0 = TwoFilesSay (OnHeaded CheckWork) file tree old new in
    let ends =
    Ends-from P Q c.args.out.now _ c.say_tree.new.out _ c.in-Ok.ensures.silent
    (on_both-work (HeadedSays CheckWork tree) file tree old mid new c.in-Ok.problem
    c.in-Ok.ensures.problem (c.problem_of.ensures.keeps.held tree)
    c.problem_of.ensures.keeps.later) c.say_tree.ensures.ends in
    record {
      ends = ends;
      keeps =
          keeps_through _ _ _ c.in-Ok.ensures.keeps c.say_tree.ensures.keeps;
      accepted =
          done_ends c.accepted_is_best.ensures old new file tree c.args.out.now c.say_tree.new.out
          _
          ends;
    }

pub returns-in-Err : goal.returns-in-Err
returns-in-Err g c =
    let old = g.F.Shelf.state c.args.shelf.now in
    let new = g.F.Shelf.state c.problem_of.new.shelf in
    let file = c.args.file.now in
    let tree = c.args.tree.now in
    let Q : Status → List ℕ → Type 0 = TwoFilesSay (OnHeaded CheckWork) file tree old new in
    let ends =
    Ends-map _ Q c.args.out.now c.problem_of.new.out _
    (on_both-faults (HeadedSays CheckWork tree) file tree old new) c.in-Err.ensures.told in
    record {
      ends = ends;
      keeps = c.in-Err.ensures.keeps;
      accepted =
          done_ends c.accepted_is_best.ensures old new file tree c.args.out.now
          c.problem_of.new.out _
          ends;
    }
