use Rattle.std.proofs.Common.{◌≡◌, ap, ℕ, List}
use Rattle.searches.specs.studio_rules.Reading.{TwoFilesSay}
use Rattle.searches.specs.studio_rules.Rankcheck.{OnRank, RankcheckSays}
use Rattle.searches.specs.studio_rules.Ending.{Says}
use Rattle.searches.specs.studio_rules.declared.status.Status.{Status}
use Rattle.searches.proofs.command_files.Cited.{Ends-map, Ends-from, on_both-faults, on_both-work}
use Rattle.searches.proofs.command_files.Cited.{keeps_through}
use Rattle.rank_commands.proofs.Best.{done_ends}
use Rattle.rank_commands.proofs.judge.rankcheck.Goals as goal

pub returns-in-Ok : goal.returns-in-Ok
returns-in-Ok g c =
    let old = g.F.Shelf.state c.args.shelf.now in
    let mid = g.F.Shelf.state c.problem_of.new.shelf in
    let new = g.F.Shelf.state c.say_rank.new.shelf in
    let file = c.args.file.now in
    let rank = c.args.rank.now in
    let P : Status → List ℕ → Type 0 =
    Says (OnRank mid.held rank c.in-Ok.problem) (λ other. other ≡ rank) mid new in
    let Q : Status → List ℕ → Type 0 = TwoFilesSay OnRank file rank old new in
    let ends =
    Ends-from P Q c.args.out.now _ c.say_rank.new.out _ c.in-Ok.ensures.silent
    (on_both-work (RankcheckSays rank) file rank old mid new c.in-Ok.problem
    c.in-Ok.ensures.problem
    (c.problem_of.ensures.keeps.held rank) c.problem_of.ensures.keeps.later)
    c.say_rank.ensures.ends in
    record {
      ends = ends;
      keeps =
          keeps_through _ _ _ c.in-Ok.ensures.keeps c.say_rank.ensures.keeps;
      accepted =
          done_ends c.accepted_are_best.ensures old new file rank c.args.out.now
          c.say_rank.new.out _
          ends;
    }

pub returns-in-Err : goal.returns-in-Err
returns-in-Err g c =
    let old = g.F.Shelf.state c.args.shelf.now in
    let new = g.F.Shelf.state c.problem_of.new.shelf in
    let file = c.args.file.now in
    let rank = c.args.rank.now in
    let Q : Status → List ℕ → Type 0 = TwoFilesSay OnRank file rank old new in
    let ends =
    Ends-map _ Q c.args.out.now c.problem_of.new.out _
    (on_both-faults (RankcheckSays rank) file rank old new) c.in-Err.ensures.told in
    record {
      ends = ends;
      keeps = c.in-Err.ensures.keeps;
      accepted =
          done_ends c.accepted_are_best.ensures old new file rank c.args.out.now
          c.problem_of.new.out
          _ ends;
    }
