use Rattle.std.proofs.Common.{List, sym, subst}
use Rattle.rank_text.specs.problem_rules.Each.{Each}
use Rattle.rank_text.specs.tree_rules.Claim.{Network}
use Rattle.rank_text.specs.branch_tree.Sized.{IsKept}
use Rattle.rank_text.proofs.tree_text.Cited.{item_ahead}
use Rattle.rank_commands.proofs.ranking.networks_are_kept.Goals as goal

pub networks-preserved : goal.networks-preserved
networks-preserved c =
    λ rest. c.networks.invariant
    (subst (λ (ws : List Network). Each IsKept ws)
    (sym
    (item_ahead c.args.networks.now c.networks.network-index c.network-item.result
    c.networks-test.true c.network-item.is)) (c.is_sized.ensures.kept, rest))
