use Rattle.std.proofs.Common.{◌≤◌, ◌+◌, ◌∷◌, [], ◌++◌, ◌∙◌, ap, sym, map, drop, length, arith}
use Rattle.std.proofs.lemmas.List.{drop_more, drop_all}
use Rattle.cert_check.specs.tree_rules.Tree.{TreeNode}
use Rattle.cert_check.specs.tree_rules.Leaf.{Leaf}
use Rattle.report_tables.specs.Opened.{opened_node}
use Rattle.report_tables.proofs.Pieces.{next_row, last_row}
use Rattle.report_tables.proofs.opened.opened_nodes.Goals as goal

pub copying-init : goal.copying-init
copying-init c = ap (λ ts. ts ++ map opened_node c.args.nodes.now) c.new-copies.ensures.items

pub copying-preserved : goal.copying-preserved
copying-preserved c =
    let ts = c.args.nodes.now in
    let i = c.copying.node-index in
    let t = c.node-item.result in
    next_row opened_node (drop i ts) (drop (i + 1) ts) t c.copying.copies.items
    c.push.new.self.items (map opened_node ts)
    (drop_more ts i t c.copying-test.true
    ∙ ap (λ (u : TreeNode Leaf). u ∷ drop (i + 1) ts) (sym c.node-item.is))
    (c.in_ok-push.ensures.items
    ∙ ap (λ (u : TreeNode Leaf). c.copying.copies.items ++ u ∷ []) c.in_ok-copy.ensures)
    c.copying.invariant

pub returns : goal.returns
returns c =
    let low : length c.args.nodes.now ≤ c.copying.node-index = omega arith in
    last_row opened_node (drop c.copying.node-index c.args.nodes.now) c.copying.copies.items
    (map opened_node c.args.nodes.now) (drop_all c.copying.node-index c.args.nodes.now low)
    c.copying.invariant
