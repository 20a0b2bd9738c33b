use Rattle.std.proofs.Common.{◌∙◌, ap, sym}
use Rattle.tree_text_laws.specs.tree_rules.Tree.{TreeNode}
use Rattle.tree_text_laws.specs.tree_rules.Leaf.{Leaf}
use Rattle.tree_text_laws.specs.tree_text_rules.Graft.{is_open}
use Rattle.tree_parts.proofs.MergeLemmas.{open_at, shut_more}
use Rattle.tree_parts.proofs.merging.has_open.Goals as goal

pub returns-then-is_open : goal.returns-then-is_open
returns-then-is_open c =
    open_at c.args.nodes.now c.looking.node-index c.node-item.result c.looking-test.true
    c.node-item.is
    (ap (λ (t : TreeNode Leaf). is_open t.end) (sym c.node.view_is) ∙ sym c.is_open.ensures
    ∙ c.if-is_open.true)

pub looking-preserved : goal.looking-preserved
looking-preserved c =
    shut_more c.args.nodes.now c.looking.node-index c.node-item.result c.looking-test.true
    c.node-item.is
    (ap (λ (t : TreeNode Leaf). is_open t.end) (sym c.node.view_is) ∙ sym c.is_open.ensures
    ∙ c.if-is_open.false) c.looking.invariant
