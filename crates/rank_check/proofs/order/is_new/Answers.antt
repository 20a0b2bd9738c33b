use Rattle.std.proofs.Common.{rules}
use Rattle.rank_check.proofs.NetworkLemmas.{left_less, left_same}
use Rattle.rank_check.proofs.order.is_new.Goals as goal

pub returns-then-are_alike : goal.returns-then-are_alike
returns-then-are_alike c = (
  (λ h. absurd cc),
  (λ h. absurd
      (left_same c.args.distinct c.args.networks.now c.index-networks-left.result
      c.args.network.now c.args.at
      c.looking.left c.looking-test.true c.requires c.index-networks-left.is
      (c.are_alike.ensures.0 c.if-are_alike.true) c.looking.invariant h)),
)

pub looking-preserved : goal.looking-preserved
looking-preserved c =
    left_less c.args.distinct c.args.networks.now c.index-networks-left.result c.args.network.now
    c.args.at
    c.looking.left c.looking-test.true c.requires c.index-networks-left.is
    (λ same. let t = c.are_alike.ensures.1 same in search rules) c.looking.invariant
