use Rattle.std.proofs.Common.{◌≡◌, true, sym, ◌∙◌, subst}
use Rattle.link_lists.specs.Lists.{row, has}
use Rattle.link_lists.proofs.Cited.{first_has}
use Rattle.node_pool.specs.Order.{OpenLeaves}
use Rattle.node_pool.proofs.leaves.Leaves.first_from_front.Goals as goal

pub is_at_least-requires : goal.is_at_least-requires
is_at_least-requires c =
    c.requires.known c.in_ok-leaf.leaf
    (subst (λ (o : OpenLeaves). has o.leaves c.in_ok-leaf.leaf ≡ true) c.self.view_is
    (first_has (row c.self.inside.lists.lists 0) c.in_ok-leaf.leaf
    (sym c.first.ensures ∙ c.in_ok-leaf.was)))
