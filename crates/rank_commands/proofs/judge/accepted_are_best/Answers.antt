use Rattle.rank_commands.proofs.Best as best
use Rattle.rank_commands.proofs.judge.accepted_are_best.Goals as goal

pub returns : goal.returns
returns c =
    best.accepted_are_best c.listed_are_least.ensures c.others_are_no_better.ensures.full
    c.others_are_no_better.ensures.fewer c.alternatives_are_right.ensures
    c.read_ranks_are_spelled.ensures
