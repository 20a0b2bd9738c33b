use Rattle.std.proofs.Common.{length, List, ap, subst, arith, Option, ◌∙◌}
use Rattle.node_evaluation.specs.search_tree.Cells.{Cell}
use Rattle.abb_search.specs.declared.growing.StoppedLeaf.{StoppedLeaf}
use Rattle.abb_search.specs.Settling.{SettleHolds, StaysSettling}
use Rattle.abb_search.proofs.SameLemmas.{same_trans}
use Rattle.abb_search.proofs.settling.settle_from.Goals as goal

pub leaves-init : goal.leaves-init
leaves-init g c = record {
  same = c.settle_leaf.ensures.same;
  fewer =
      subst
      (λ (o : Option StoppedLeaf). SettleHolds g.E.Evaluator.past c.args.site.now c.args.growing.now
      c.settle_leaf.new.growing o) c.in_default.is c.in_ok-stopped.ensures.settles;
  own = c.settle_leaf.ensures.own;
  makers = c.settle_leaf.ensures.makers;
}

pub settle_put_off-requires-clause-own : goal.settle_put_off-requires-clause-own
settle_put_off-requires-clause-own g c = c.leaves.invariant.own

pub settle_put_off-requires-clause-growing : goal.settle_put_off-requires-clause-growing
settle_put_off-requires-clause-growing g c = (
  c.requires.growing.0,
  c.leaves.invariant.same.growing c.requires.growing.0 c.requires.growing.1,
)

pub settle_put_off-requires-clause-leaf : goal.settle_put_off-requires-clause-leaf
settle_put_off-requires-clause-leaf g c =
    let t = c.leaves-test.true in
    let n = c.requires.growing.1.tree.counted in
    let a = c.settle_leaf.ensures.same.nodes in
    let b = ap (λ (cs : List Cell). length cs) c.leaves.invariant.same.cells in
    omega (arith, t, n, a, b)

pub leaves-preserved : goal.leaves-preserved
leaves-preserved g c =
    let h =
    subst
    (λ (o : Option StoppedLeaf). StaysSettling g.E.Evaluator.past c.args.site.now
    c.leaves.growing c.settle_put_off.new.growing o) c.in_default-2.is
    c.in_ok-stopped-2.ensures.settles in
    let f = c.leaves.invariant.fewer in
    record {
      same =
          same_trans g.E.Evaluator.past c.args.site.now c.args.growing.now c.leaves.growing
          c.settle_put_off.new.growing c.leaves.invariant.same c.settle_put_off.ensures.same;
      fewer = omega (arith, h, f);
      own = c.settle_put_off.ensures.own;
      makers = c.settle_put_off.ensures.makers ∙ c.leaves.invariant.makers;
    }

pub returns-in-Some-2-clause-same : goal.returns-in-Some-2-clause-same
returns-in-Some-2-clause-same g c =
    same_trans g.E.Evaluator.past c.args.site.now c.args.growing.now c.leaves.growing
    c.settle_put_off.new.growing c.leaves.invariant.same c.settle_put_off.ensures.same

pub returns-in_err-stopped-2-clause-same : goal.returns-in_err-stopped-2-clause-same
returns-in_err-stopped-2-clause-same g c =
    same_trans g.E.Evaluator.past c.args.site.now c.args.growing.now c.leaves.growing
    c.settle_put_off.new.growing c.leaves.invariant.same c.settle_put_off.ensures.same
