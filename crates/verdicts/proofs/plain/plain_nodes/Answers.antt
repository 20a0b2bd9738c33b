use Rattle.std.proofs.Common.{◌≡◌, ◌+◌, ◌∙◌, ap, drop, map, List}
use Rattle.report_rules.specs.tree_rules.Leaf.{Leaf}
use Rattle.report_rules.specs.tree_rules.Tree.{TreeNode}
use Rattle.report_rules.specs.rank_rules.Marked.{Mark, marked, marked_node, marks_behind}
use Rattle.rank_check.specs.View.{mark_of}
use Rattle.report_rules.specs.RankLow.{plain_node, plain_tree}
use Rattle.verdicts.proofs.PlainLemmas.{node_ahead, one_more, all_done}
use Rattle.verdicts.proofs.plain.plain_nodes.Goals as goal

pub nodes-preserved : goal.nodes-preserved
nodes-preserved c =
    let ms : List Mark = map mark_of c.nodes.rest.now in
    let next : List Mark = map mark_of c.marks_behind-rest.result.now in
    let xs = c.args.nodes.now in
    let i = c.nodes.node-index in
    let x : TreeNode Leaf = c.node-item.result in
    one_more c.nodes.plain.items c.push.new.self.items (plain_tree (marked ms (drop i xs)))
    (plain_tree (marked next (drop (i + 1) xs)))
    (plain_tree (marked (map mark_of c.args.marks.now) xs)) c.in_ok-next.next
    (plain_node (marked_node ms x)) c.in_ok-push.ensures.items
    c.in_ok-next.ensures
    (node_ahead ms next xs i x c.nodes-test.true c.node-item.is
    (c.marks_behind-rest.ensures
    ∙ ap (λ (t : TreeNode Leaf). marks_behind ms t.end) c.node.view_is))
    c.nodes.invariant

pub returns : goal.returns
returns c =
    all_done c.nodes.plain.items
    (plain_tree (marked (map mark_of c.args.marks.now) c.args.nodes.now))
    c.args.nodes.now (map mark_of c.nodes.rest.now) c.nodes.node-index c.nodes-test.false
    c.nodes.invariant
