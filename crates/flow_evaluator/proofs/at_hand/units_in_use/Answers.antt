use Rattle.std.proofs.Common.{◌≡◌, ◌<◌, sym, subst}
use Rattle.flow_evaluator.proofs.HandLemmas.{in_use_known, in_use_inside, in_use_outside}
use Rattle.dual_simplex.specs.pgraph.Tables.{shape}
use Rattle.flow_evaluator.proofs.at_hand.units_in_use.Goals as goal

pub returns-clause-known : goal.returns-clause-known
returns-clause-known c =
    let units : c.unit_count.result ≡ (shape c.args.graph.now).units = c.unit_count.ensures in
    λ u e.
    subst (λ n. u < n) units
    (in_use_known c.args.running c.below.result c.args.node.now.outside c.args.node.now.inside
    c.minus-free.result c.meet.result c.union.result c.minus-free.ensures c.meet.ensures
    c.union.ensures
    c.unit_count.result c.below.ensures
    (λ v i. subst (λ n. v < n) (sym units) (c.requires.known v i)) u e)

pub returns-clause-inside : goal.returns-clause-inside
returns-clause-inside c =
    in_use_inside c.args.running c.below.result c.args.node.now.outside c.args.node.now.inside
    c.minus-free.result c.meet.result c.union.result c.minus-free.ensures c.meet.ensures
    c.union.ensures

pub returns-clause-outside : goal.returns-clause-outside
returns-clause-outside c =
    in_use_outside c.args.running c.below.result c.args.node.now.outside c.args.node.now.inside
    c.minus-free.result c.meet.result c.union.result c.minus-free.ensures c.meet.ensures
    c.union.ensures
    c.requires.apart
