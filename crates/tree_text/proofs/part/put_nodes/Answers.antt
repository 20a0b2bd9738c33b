use Rattle.std.proofs.Common.{subst, ap}
use Rattle.std.proofs.lemmas.List.{drop_all}
use Rattle.tree_text_rules.specs.tree_rules.Known.{KnowsTree}
use Rattle.tree_text_rules.specs.tree_rules.Accepted.{Tree}
use Rattle.tree_text_rules.specs.Spelling.{tree_lines}
use Rattle.tree_text.proofs.Printed.{none_put, both_put, first_failed, item_ahead}
use Rattle.tree_text.proofs.part.put_nodes.Goals as goal

pub returns-in_err-put_node : goal.returns-in_err-put_node
returns-in_err-put_node g c =
    let ahead =
    item_ahead c.args.nodes.now c.printing.node-index c.node-item.result c.printing-test.true
    c.node-item.is in
    c.printing.invariant.finishes _ _
    (first_failed _ c.in_err-put_node.ensures c.from_residual.ensures.1
    (ap (tree_lines c.args.problem.now) ahead))

pub printing-preserved : goal.printing-preserved
printing-preserved g c =
    let ahead =
    item_ahead c.args.nodes.now c.printing.node-index c.node-item.result c.printing-test.true
    c.node-item.is in
    record {
      known =
          (subst (λ (ts : Tree). KnowsTree c.args.problem.now ts) ahead
          c.printing.invariant.known).1;
      finishes =
          λ last r rest. c.printing.invariant.finishes last r
          (both_put c.in_ok-put_node.ensures rest (ap (tree_lines c.args.problem.now) ahead));
    }

pub returns : goal.returns
returns g c =
    c.printing.invariant.finishes _ _
    (rw (drop_all c.printing.node-index c.args.nodes.now c.printing-test.false) (none_put _ _))
