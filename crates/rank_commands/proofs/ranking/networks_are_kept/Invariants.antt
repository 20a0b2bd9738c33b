use Rattle.std.proofs.Common.{drop}
use Rattle.rank_text.specs.problem_rules.Each.{Each}
use Rattle.rank_text.specs.branch_tree.Sized.{IsKept}
use Rattle.rank_commands.proofs.ranking.networks_are_kept.Given as goal

-- the networks before the index are kept, so all are if those that follow are
abbrev pub invariant-networks : goal.invariant-networks
invariant-networks l = Each IsKept (drop l.network-index l.networks) → Each IsKept l.networks
