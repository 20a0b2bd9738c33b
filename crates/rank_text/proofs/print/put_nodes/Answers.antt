use Rattle.std.proofs.Common.{◌∙◌, ap, arith, map, refl, List}
use Rattle.std.proofs.lemmas.Result.{err_from_is_err_and}
use Rattle.rank_check.specs.rank_rules.Marked.{Mark, marks_behind}
use Rattle.rank_check.specs.View.{mark_of}
use Rattle.tree_text_laws.specs.tree_rules.Leaf.{Leaf}
use Rattle.tree_text_laws.specs.tree_rules.Tree.{TreeNode}
use Rattle.tree_text.proofs.Cited.{then_printed, then_failed, item_ahead}
use Rattle.rank_text.proofs.Printing.{node_ahead}
use Rattle.rank_text.proofs.print.put_nodes.Goals as goal

pub returns-in_err-put_node-clause-prints : goal.returns-in_err-put_node-clause-prints
returns-in_err-put_node-clause-prints g c =
    let e = err_from_is_err_and c.from_residual.result c.from_residual.ensures.1 in
    rw (e.1, e.2) (then_failed _ _ _ _ _ _ _ c.printing.invariant.printed
    (node_ahead c.args.problem.now (map mark_of c.printing.rest.now) _ c.args.nodes.now
    c.printing.node-index c.node-item.result c.printing-test.true c.node-item.is refl)
    _ c.printing.invariant.later c.in_err-put_node.ensures.prints)

pub printing-preserved : goal.printing-preserved
printing-preserved g c =
    let p = c.args.problem.now in
    let ms : List Mark = map mark_of c.printing.rest.now in
    record {
      known =
          (rw (item_ahead c.args.nodes.now c.printing.node-index c.node-item.result
          c.printing-test.true c.node-item.is) at c.printing.invariant.known).1;
      printed = then_printed _ _ _ _ _ _ _ c.printing.invariant.printed
          (node_ahead p ms (map mark_of c.marks_behind-rest.result.now) c.args.nodes.now
          c.printing.node-index c.node-item.result c.printing-test.true c.node-item.is
          (c.marks_behind-rest.ensures
          ∙ ap (λ (t : TreeNode Leaf). marks_behind ms t.end) c.node.view_is))
          c.in_ok-put_node.ensures.prints;
      later = omega arith;
    }
