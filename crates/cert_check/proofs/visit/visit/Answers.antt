use Rattle.std.proofs.Common.{◌≡◌, ◌∙◌, ap, map, subst}
use Rattle.std.proofs.lemmas.Result.{err_from_is_err_and}
use Rattle.tree_text_rules.specs.tree_rules.Tree.{TreeNode, StepsPass, after_all}
use Rattle.tree_text_rules.specs.tree_rules.Leaf.{Leaf}
use Rattle.branch_tree.specs.View.{end_of}
use Rattle.tree_text_rules.specs.pns_rules.Shape.{Shape, shape_of}
use Rattle.charges.specs.pgraph.View.{node_of, step_of}
use Rattle.cert_check.specs.Subtrees.{rest_of, stack_of}
use Rattle.cert_check.specs.Visits.{leaf_passes, leaf_fails}
use Rattle.cert_check.proofs.LeafLemmas.{reached, node_visited, node_halts}
use Rattle.cert_check.proofs.visit.visit.Goals as goal

pub returns : goal.returns
returns c =
    let g = shape_of c.args.judge.now.site.now in
    let n = node_of c.args.node.now in
    let m = node_of c.in-Some.reached in
    let t = c.args.item.now in
    let steps = map step_of c.steps-steps.result.now in
    let steps_is = c.steps-steps.ensures ∙ ap (λ (u : TreeNode Leaf). u.steps) c.item.view_is in
    let possible =
    subst (λ (h : Shape). StepsPass h n steps) c.graph.ensures.same
    c.in-Some.ensures.possible in
    let leads =
    subst (λ (h : Shape). m ≡ after_all h n steps) c.graph.ensures.same
    c.in-Some.ensures.leads in
    let end_is = ap (λ (u : TreeNode Leaf). u.end) c.item.view_is in
    record {
      visited =
          node_visited g n m t steps steps_is possible leads (leaf_passes c.args.judge.now)
          (rest_of c.args.behind.now)
          (stack_of c.args.stack.now.items) (stack_of c.visit_end.new.stack.items)
          (end_of c.item.inside.end) end_is c.in_ok-visit_end.ensures.passes
          c.in_ok-visit_end.ensures.children;
      reached = reached g n m t steps steps_is possible leads;
      halts = tt;
    }

pub returns-in_err-visit_end : goal.returns-in_err-visit_end
returns-in_err-visit_end c =
    let e = err_from_is_err_and c.from_residual.result c.from_residual.ensures.1 in
    let g = shape_of c.args.judge.now.site.now in
    let n = node_of c.args.node.now in
    let m = node_of c.in-Some.reached in
    let t = c.args.item.now in
    let steps = map step_of c.steps-steps.result.now in
    let steps_is = c.steps-steps.ensures ∙ ap (λ (u : TreeNode Leaf). u.steps) c.item.view_is in
    let possible =
    subst (λ (h : Shape). StepsPass h n steps) c.graph.ensures.same
    c.in-Some.ensures.possible in
    let leads =
    subst (λ (h : Shape). m ≡ after_all h n steps) c.graph.ensures.same
    c.in-Some.ensures.leads in
    let end_is = ap (λ (u : TreeNode Leaf). u.end) c.item.view_is in
    rw (e.1, e.2) (record {
      visited = tt;
      reached = tt;
      halts =
          node_halts g n m t steps steps_is possible leads (leaf_fails c.args.judge.now)
          (rest_of c.args.behind.now)
          (end_of c.item.inside.end) end_is _ c.in_err-visit_end.ensures.halts;
    })
