use Rattle.rank_check.proofs.NetworkLemmas.{IsLeft}
use Rattle.rank_check.proofs.order.is_new.Given as goal

abbrev pub invariant-looking : goal.invariant-looking
invariant-looking l = IsLeft l.distinct l.networks l.network l.at l.left

abbrev pub decreases-looking : goal.decreases-looking
decreases-looking l = l.left
