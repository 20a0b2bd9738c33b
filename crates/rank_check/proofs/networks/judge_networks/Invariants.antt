use Rattle.rank_check.proofs.NetworkLemmas.{IsOn}
use Rattle.rank_check.proofs.networks.judge_networks.Given as goal

abbrev pub invariant-judging : goal.invariant-judging
invariant-judging l = IsOn l.distinct l.site l.networks l.i
