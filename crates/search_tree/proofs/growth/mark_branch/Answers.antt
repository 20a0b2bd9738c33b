use Rattle.std.proofs.Common.{◌≡◌, sym, subst}
use Rattle.node_pool.specs.link_lists.Lists.{has}
use Rattle.node_pool.specs.Pooled.{Pooled, IsShut, with_payload}
use Rattle.search_tree.specs.Cells.{Cell}
use Rattle.search_tree.proofs.GrowthLemmas.{others_stay, shut_now}
use Rattle.search_tree.proofs.growth.mark_branch.Goals as goal

pub returns-clause-parent : goal.returns-clause-parent
returns-clause-parent c =
    subst
    (λ (p : Pooled Cell). IsShut (with_payload p c.args.leaf c.make_parent.new.self)
    c.args.leaf) (sym c.shut.ensures)
    (shut_now c.args.pool.now c.args.leaf c.make_parent.new.self
    (c.is_pool.ensures.leaves c.args.leaf c.requires))

pub returns-clause-others : goal.returns-clause-others
returns-clause-others c = λ j ne.
    subst (λ (p : Pooled Cell). has p.leaves j ≡ has c.args.pool.now.leaves j) (sym c.shut.ensures)
    (others_stay c.args.leaf c.args.pool.now.leaves j ne)
