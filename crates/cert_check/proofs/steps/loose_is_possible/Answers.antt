use Rattle.std.proofs.Common.{false, refl}
use Rattle.std.proofs.lemmas.Bool.{both_ways}
use Rattle.charges.specs.pgraph.Tables.{shape}
use Rattle.charges.specs.pgraph.View.{node_of}
use Rattle.cert_check.proofs.SetLemmas.{none_there}
use Rattle.cert_check.proofs.StepLemmas.{loose_free, loose_known, others_known, loose_is}
use Rattle.cert_check.proofs.steps.loose_is_possible.Goals as goal

pub returns-then-is_empty : goal.returns-then-is_empty
returns-then-is_empty c = (
  (λ h. absurd (both_ways false refl h)),
  (λ p. let k =
      p.0 in absurd (none_there c.args.set k.0 (c.is_empty.ensures.0 c.if-is_empty.true) k.1)),
)

pub returns-then-not-within : goal.returns-then-not-within
returns-then-not-within c = (
  (λ h. absurd (both_ways false refl h)),
  (λ p. absurd
      (both_ways c.within.result c.if-not-within.true
      (c.within.ensures.1
      (loose_free (shape c.args.graph.now) (node_of c.args.node.now) c.is_proper.ensures.proper
      c.args.set c.free_units.result c.free_units.ensures p)))),
)

pub used-requires : goal.used-requires
used-requires c =
    let g = shape c.args.graph.now in
    others_known g (node_of c.args.node.now) c.is_proper.ensures.proper c.args.set
    c.free_units.result c.free_units.ensures c.units_left.result c.minus-others.result
    c.units_left.ensures c.minus-others.ensures

pub made-requires : goal.made-requires
made-requires c =
    loose_known (shape c.args.graph.now) (node_of c.args.node.now) c.is_proper.ensures.proper
    c.args.set c.free_units.result c.free_units.ensures (c.within.ensures.0 c.if-not-within.false)

pub returns : goal.returns
returns c =
    let g = shape c.args.graph.now in
    let k =
    loose_is g (node_of c.args.node.now) c.is_proper.ensures.proper c.args.set
    c.free_units.result c.free_units.ensures c.units_left.result c.minus-others.result
    c.units_left.ensures c.minus-others.ensures
    c.used.result c.products.result c.union-wanted.result c.made.result c.used.ensures
    c.products.ensures c.union-wanted.ensures c.made.ensures
    (λ e. both_ways c.is_empty.result c.if-is_empty.false (c.is_empty.ensures.1 e))
    (c.within.ensures.0 c.if-not-within.false) in
    ((λ h. k.0 (c.are_apart.ensures.0 h)), (λ p. c.are_apart.ensures.1 (k.1 p)))
