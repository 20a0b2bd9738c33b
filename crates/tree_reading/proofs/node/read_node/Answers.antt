use Rattle.std.proofs.Common.{◌≡◌, ◌+◌, List, map, rules, sym, subst}
use Rattle.std.proofs.lemmas.Result.{err_from_is_err_and}
use Rattle.tree_text_rules.specs.pns_rules.Nodes.{Step}
use Rattle.branch_tree.specs.pgraph.View.{step_of}
use Rattle.branch_tree.specs.View.{end_of}
use Rattle.tree_text_rules.specs.tree_rules.Tree.{children}
use Rattle.tree_text_rules.specs.Read.{Head, with_end, with_node, between, nodes_taken}
use Rattle.tree_reading.specs.Gives.{begun}
use Rattle.tree_reading.specs.Place.{lines_at}
use Rattle.tree_reading.proofs.NodeByNode.{steps_told, end_told, node_read}
use Rattle.tree_reading.proofs.node.read_node.Goals as goal

pub returns-in_err-steps : goal.returns-in_err-steps
returns-in_err-steps c =
    let e = err_from_is_err_and c.from_residual.result c.from_residual.ensures.1 in
    rw (e.1, e.2)
    (λ count. steps_told c.args.problem.now c.args.option c.args.cut.line
    (lines_at c.args.bytes.now c.args.cut) count _ c.in_err-steps.ensures.fault)

pub returns-in_err-end : goal.returns-in_err-end
returns-in_err-end c =
    let e =
    err_from_is_err_and c.from_residual-in_err-end.result
    c.from_residual-in_err-end.ensures.1 in
    let first = c.in_ok-steps.first in
    let head : Head =
    record { option = c.args.option; steps = map step_of c.in_ok-steps.steps.items } in
    rw (e.1, e.2)
    (λ count. end_told c.args.problem.now c.args.option c.args.cut.line
    (lines_at c.args.bytes.now c.args.cut) head first.line (lines_at c.args.bytes.now first)
    c.in_ok-steps.ensures.ok count _ c.in_err-end.ensures.fault)

pub returns : goal.returns
returns c =
    let p = c.args.problem.now in
    let lines = lines_at c.args.bytes.now c.args.cut in
    let first = c.in_ok-steps.first in
    let behind = c.in_ok-end.behind in
    let left = lines_at c.args.bytes.now behind in
    let end = end_of c.in_ok-end.end in
    let head : List Step → Head = λ steps. record { option = c.args.option; steps = steps } in
    let steps = map step_of c.in_ok-steps.steps.items in
    record {
      reads = λ count.
          subst
          (λ (steps : List Step). begun p c.args.option count c.args.cut.line lines
          ≡ with_node (with_end (head steps) end)
          (nodes_taken p between (children end + count) behind.line left))
          (sym c.from_vec.ensures)
          (node_read p c.args.option c.args.cut.line lines (head steps) first.line
          (lines_at c.args.bytes.now first) c.in_ok-steps.ensures.ok count end behind.line left
          c.in_ok-end.ensures.read);
      behind = search rules;
      option_is = search rules;
      known = search rules;
      whole = search rules;
    }
