use Rattle.std.proofs.Common.{◌≡◌, ◌++◌, OnOk, IfErr, rules, ap, sym, subst}
use Rattle.tree_text_rules.specs.tree_rules.Tree.{End, below, EndPasses}
use Rattle.tree_text_rules.specs.tree_rules.Fault.{EndFails}
use Rattle.tree_text_rules.specs.tree_rules.Leaf.{Leaf}
use Rattle.tree_text_rules.specs.pns_rules.Shape.{Shape, shape_of}
use Rattle.charges.specs.pgraph.View.{node_of}
use Rattle.branch_tree.specs.View.{end_of}
use Rattle.cert_check.specs.Subtrees.{rest_of, stack_of}
use Rattle.cert_check.specs.Visits.{leaf_passes, leaf_fails, Halts}
use Rattle.cert_check.proofs.LeafLemmas.{leaf_of}
use Rattle.cert_check.proofs.visit.visit_end.Goals as goal

pub returns-in-Ok : goal.returns-in-Ok
returns-in-Ok c =
    let g = shape_of c.args.judge.now.site.now in
    let n = node_of c.args.node.now in
    let k = leaf_of c.args.end.now c.in_default.not-Branch c.in_default.not-Either in
    record {
      passes =
          subst
          (λ (e : End Leaf). EndPasses g (leaf_passes c.args.judge.now) n e
          (rest_of c.args.behind.now)) (sym k.1) (c.in-Ok.ensures.passes k.0 k.1);
      children = ap (λ (e : End Leaf). below g n e ++ stack_of c.args.stack.now.items) (sym k.1);
      halts = tt;
    }

pub returns-in-Err : goal.returns-in-Err
returns-in-Err c =
    let g = shape_of c.args.judge.now.site.now in
    let n = node_of c.args.node.now in
    let k = leaf_of c.args.end.now c.in_default.not-Branch c.in_default.not-Either in
    record {
      passes = tt;
      children = tt;
      halts =
          subst
          (λ (e : End Leaf). EndFails g (leaf_fails c.args.judge.now) n e
          (rest_of c.args.behind.now) c.in-Err.why) (sym k.1) (c.in-Err.ensures.fails k.0 k.1);
    }

pub returns-in-Branch-clause-passes : goal.returns-in-Branch-clause-passes
returns-in-Branch-clause-passes c =
    subst
    (λ (g : Shape). OnOk c.visit_branch.result
    (EndPasses g (leaf_passes c.args.judge.now) (node_of c.args.node.now)
    (end_of c.args.end.now) (rest_of c.args.behind.now))) c.graph.ensures.same (search rules)

pub returns-in-Branch-clause-children : goal.returns-in-Branch-clause-children
returns-in-Branch-clause-children c =
    subst
    (λ (g : Shape). OnOk c.visit_branch.result
    (stack_of c.visit_branch.new.stack.items
    ≡ below g (node_of c.args.node.now) (end_of c.args.end.now)
    ++ stack_of c.args.stack.now.items)) c.graph.ensures.same (search rules)

pub returns-in-Branch-clause-halts : goal.returns-in-Branch-clause-halts
returns-in-Branch-clause-halts c =
    subst
    (λ (g : Shape). IfErr c.visit_branch.result
    (Halts
    (EndFails g (leaf_fails c.args.judge.now) (node_of c.args.node.now) (end_of c.args.end.now)
    (rest_of c.args.behind.now)))) c.graph.ensures.same (search rules)
