use Rattle.std.proofs.Common.{SFits, rules, to_z}
use Rattle.std.specs.Int.{w128}
use Rattle.std.proofs.lemmas.Int.{to_z-of_z}
use Rattle.charges.proofs.PaidLemmas.{weighed_begins, weight_past, weighed_more}
use Rattle.charges.proofs.paid.with_weights.Goals as goal

pub loop-cover-init : goal.loop-cover-init
loop-cover-init c =
    let f : SFits w128 c.args.from.sum = search rules in
    simp to_z-of_z (weighed_begins c.args.covers.now c.args.from.sum c.args.from.at)

pub returns-in-Err-clause-past : goal.returns-in-Err-clause-past
returns-in-Err-clause-past c =
    let f : SFits w128 c.args.from.sum = search rules in
    let w : SFits w128 c.cover-item.result.weight = search rules in
    weight_past c.args.covers.now c.args.from.sum (to_z w128 c.loop-cover.sum-bits)
    c.args.from.at c.loop-cover.at c.loop-cover.cover-index c.cover-item.result
    c.loop-cover-test.true c.cover-item.is c.loop-cover.invariant
    c.in-Err.past.at c.in-Err.ensures.from_start (simp to_z-of_z at c.in-Err.ensures.past)

pub loop-cover-preserved : goal.loop-cover-preserved
loop-cover-preserved c =
    let f : SFits w128 c.args.from.sum = search rules in
    let w : SFits w128 c.cover-item.result.weight = search rules in
    let n : SFits w128 c.in-Ok.next.sum = search rules in
    simp to_z-of_z
    (weighed_more c.args.covers.now c.args.from.sum (to_z w128 c.loop-cover.sum-bits)
    c.args.from.at c.loop-cover.at c.loop-cover.cover-index c.cover-item.result
    c.loop-cover-test.true c.cover-item.is c.loop-cover.invariant
    c.in-Ok.next.sum c.in-Ok.next.at (simp to_z-of_z at c.in-Ok.ensures.value)
    (simp to_z-of_z at c.in-Ok.ensures.in_range) (simp to_z-of_z at c.in-Ok.ensures.count)
    c.in-Ok.ensures.small)
