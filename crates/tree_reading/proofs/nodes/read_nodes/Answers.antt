use Rattle.std.proofs.Common.{◌≤◌, ◌+◌, length, Ok, ap, sym, subst, ◌∙◌, rules, arith}
use Rattle.std.proofs.lemmas.List.{length_push}
use Rattle.std.proofs.lemmas.Result.{err_from_is_err_and}
use Rattle.tree_text_rules.specs.problem_rules.Each.{Each}
use Rattle.tree_text_rules.specs.tree_rules.Known.{KnowsNode}
use Rattle.tree_text_rules.specs.tree_rules.Accepted.{Tree}
use Rattle.tree_reading.specs.Place.{lines_at}
use Rattle.tree_reading.specs.Taken.{taken}
use Rattle.tree_reading.proofs.NodeByNode.{node_on, node_told, nodes_done, nodes_tree, option_on}
use Rattle.tree_reading.proofs.NodeByNode.{option_told, nothing_before, each_last}
use Rattle.tree_reading.proofs.nodes.read_nodes.Goals as goal

pub nodes-init : goal.nodes-init
nodes-init c = record {
  whole =
      nothing_before c.args.problem.now c.new-nodes.result.items c.empty-option.result
      c.args.cut.line (lines_at c.args.bytes.now c.args.cut) (search rules) c.empty-option.ensures;
  reached = search rules;
  count = search rules;
  few = search rules;
  known = search rules;
  option_known = search rules;
}

pub returns-in_err-node-clause-fault : goal.returns-in_err-node-clause-fault
returns-in_err-node-clause-fault c =
    let e = err_from_is_err_and c.from_residual.result c.from_residual.ensures.1 in
    rw (e.1, e.2) (node_told c.nodes.invariant.whole _ (c.in_err-node.ensures c.nodes.pending))

pub from_nodes-requires : goal.from_nodes-requires
from_nodes-requires c =
    let node = c.in_ok-node in
    let left =
    node_on node.ensures c.nodes.invariant.whole c.in_ok-push.ensures.items
    c.more_subtrees-pending.ensures.sum in
    record { tree = nodes_tree left c.if-pending-eq0.true }

pub returns-then-pending-eq0-clause-ok : goal.returns-then-pending-eq0-clause-ok
returns-then-pending-eq0-clause-ok c =
    let node = c.in_ok-node in
    let left =
    node_on node.ensures c.nodes.invariant.whole c.in_ok-push.ensures.items
    c.more_subtrees-pending.ensures.sum in
    nodes_done left c.if-pending-eq0.true
    ∙ ap (λ (ts : Tree). Ok (taken ts c.args.bytes.now node.behind)) (sym c.from_nodes.ensures)

pub returns-in_err-option-clause-fault : goal.returns-in_err-option-clause-fault
returns-in_err-option-clause-fault c =
    let e =
    err_from_is_err_and c.from_residual-in_err-option.result
    c.from_residual-in_err-option.ensures.1 in
    let node = c.in_ok-node in
    let left =
    node_on node.ensures c.nodes.invariant.whole c.in_ok-push.ensures.items
    c.more_subtrees-pending.ensures.sum in
    rw (e.1, e.2)
    (option_told left (omega (arith, c.if-pending-eq0.false)) _ c.in_err-option.ensures)

pub nodes-preserved : goal.nodes-preserved
nodes-preserved c =
    let node = c.in_ok-node in
    let next = c.in_ok-option in
    let items = c.in_ok-push.ensures.items in
    let left =
    node_on node.ensures c.nodes.invariant.whole items c.more_subtrees-pending.ensures.sum in
    let before = c.nodes.invariant.reached.later in
    let later = node.ensures.behind.later in
    let later' = next.ensures.behind.later in
    let more_bytes : c.nodes.at.at + 1 ≤ next.field-0-1.at = omega (arith, later, later') in
    record {
      whole =
          option_on left (omega (arith, c.if-pending-eq0.false)) next.field-0-0 next.field-0-1.line
          (lines_at c.args.bytes.now next.field-0-1) next.ensures.reads;
      reached =
          record { is_cut = next.ensures.behind.is_cut; later = omega (arith, before, more_bytes) };
      count = let e = ap length items in let n =
          length_push c.nodes.nodes.items node.node in let b =
          c.nodes.invariant.count in omega (arith, e, n, b, more_bytes);
      few = let b = c.more_subtrees-pending.ensures.bound in let f =
          c.nodes.invariant.few in omega (arith, b, f, more_bytes);
      known =
          subst (λ (ts : Tree). Each (KnowsNode c.args.problem.now) ts) (sym items)
          (each_last (KnowsNode c.args.problem.now) c.nodes.nodes.items node.node
          c.nodes.invariant.known node.ensures.known);
      option_known = next.ensures.known;
    }
