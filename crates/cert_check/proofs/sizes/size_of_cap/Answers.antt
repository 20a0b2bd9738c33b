use Rattle.std.proofs.Common.{◌∙◌, ap, arith, ◌<◌, SFits, rules}
use Rattle.std.specs.Int.{w64, w128}
use Rattle.std.proofs.lemmas.Bool.{both_ways}
use Rattle.tree_text_rules.specs.pns_rules.Shape.{Shape, shape_of}
use Rattle.cert_check.proofs.sizes.size_of_cap.Goals as goal

pub returns-then-unit-unit_count-clause-none : goal.returns-then-unit-unit_count-clause-none
returns-then-unit-unit_count-clause-none c = λ is.
    let le = c.if-unit-unit_count.true in
    let count = c.unit_count.ensures ∙ ap (λ (g : Shape). g.units) c.graph-graph.ensures.same in
    let lt = is.0 in
    absurd (omega (arith, le, count, lt))

pub returns-then-has-clause-none : goal.returns-then-has-clause-none
returns-then-has-clause-none c = λ is.
    both_ways c.has.result (c.has.ensures ∙ is.1) c.if-has.true
