use Rattle.std.proofs.Common.{◌≡◌, length, true, sym, ◌∙◌, subst}
use Rattle.node_pool.specs.link_lists.Lists.{has}
use Rattle.node_pool.specs.Pooled.{Pooled, IsShut}
use Rattle.search_tree.specs.Cells.{Cell}
use Rattle.search_tree.specs.Growth.{is_open}
use Rattle.search_tree.proofs.GrowthLemmas.{new_leaf, added_shut, keeps_old, open_added, shut_keeps}
use Rattle.search_tree.proofs.GrowthLemmas.{shut_added, shut_stays}
use Rattle.search_tree.proofs.growth.add_child.Goals as goal

pub shut-requires : goal.shut-requires
shut-requires c =
    subst (λ i. has c.add.new.self.leaves i ≡ true) (sym c.in-Ok.ensures.id)
    (new_leaf c.args.pool.now c.add.new.self c.args.leaf c.args.fresh.value c.args.fresh.cell
    c.in-Ok.ensures.added)

pub returns-then-not-open-clause-parent : goal.returns-then-not-open-clause-parent
returns-then-not-open-clause-parent c =
    subst (λ (p : Pooled Cell). IsShut p c.args.leaf) (sym c.shut.ensures)
    (shut_stays c.add.new.self c.in-Ok.id c.args.leaf
    (added_shut c.args.pool.now c.add.new.self c.args.leaf c.args.fresh.value c.args.fresh.cell
    c.in-Ok.ensures.added c.requires.parent))

pub returns-then-not-open-clause-open : goal.returns-then-not-open-clause-open
returns-then-not-open-clause-open c =
    subst (λ (p : Pooled Cell). has p.leaves (length c.args.pool.now.payloads)
    ≡ is_open c.args.fresh.cell.end) (sym c.shut.ensures)
    (shut_added c.args.pool.now c.add.new.self c.args.leaf c.args.fresh.value c.args.fresh.cell
    c.in-Ok.ensures.added c.is_pool.ensures.payloads c.in-Ok.id c.in-Ok.ensures.id
    (sym c.ends_open-open.ensures ∙ c.if-not-open.true))

pub returns-then-not-open-clause-others : goal.returns-then-not-open-clause-others
returns-then-not-open-clause-others c = λ j lt.
    subst (λ (p : Pooled Cell). has p.leaves j ≡ has c.args.pool.now.leaves j) (sym c.shut.ensures)
    (shut_keeps c.args.pool.now c.add.new.self c.args.leaf c.args.fresh.value c.args.fresh.cell
    c.in-Ok.ensures.added c.is_pool.ensures.payloads c.in-Ok.id c.in-Ok.ensures.id j lt)

pub returns-else-not-open-clause-parent : goal.returns-else-not-open-clause-parent
returns-else-not-open-clause-parent c =
    added_shut c.args.pool.now c.add.new.self c.args.leaf c.args.fresh.value c.args.fresh.cell
    c.in-Ok.ensures.added c.requires.parent

pub returns-else-not-open-clause-open : goal.returns-else-not-open-clause-open
returns-else-not-open-clause-open c =
    open_added c.args.pool.now c.add.new.self c.args.leaf c.args.fresh.value c.args.fresh.cell
    c.in-Ok.ensures.added c.is_pool.ensures.payloads
    (sym c.ends_open-open.ensures ∙ c.if-not-open.false)

pub returns-else-not-open-clause-others : goal.returns-else-not-open-clause-others
returns-else-not-open-clause-others c =
    keeps_old c.args.pool.now c.add.new.self c.args.leaf c.args.fresh.value c.args.fresh.cell
    c.in-Ok.ensures.added c.is_pool.ensures.payloads
