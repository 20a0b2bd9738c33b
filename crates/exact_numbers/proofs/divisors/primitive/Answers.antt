use Rattle.std.proofs.Common.{pos, ◌<ℤ◌, SFits, rules, get_or, arith}
use Rattle.std.proofs.lemmas.Int.{to_z-of_z, ints}
use Rattle.std.specs.Prelude.{unsigned_abs}
use Rattle.std.specs.Int.{w128}
use Rattle.std.proofs.lemmas.List.Elements.{All-set}
use Rattle.integer_laws.specs.Range.{InRange}
use Rattle.exact_numbers.proofs.Division.{divided_more, divided_all, divides_entry}
use Rattle.exact_numbers.proofs.Division.{reduced_from_quotients, reduced_from_one}
use Rattle.exact_numbers.proofs.divisors.primitive.Goals as goal

pub quotient-requires-clause-divides : goal.quotient-requires-clause-divides
quotient-requires-clause-divides c =
    let f : SFits w128 c.row_gcd-common.result = search rules in
    let e : SFits w128 (get_or c.loop-entry.row c.loop-entry.entry-index (pos 0)) = search rules in
    simp to_z-of_z
    (divides_entry _ c.args.row.now c.loop-entry.row c.loop-entry.entry-index _
    (simp to_z-of_z at c.loop-entry.invariant.items) c.loop-entry-test.true
    c.row_gcd-common.ensures.greatest)

pub loop-entry-preserved : goal.loop-entry-preserved
loop-entry-preserved c =
    let f : SFits w128 c.row_gcd-common.result = search rules in
    let e : SFits w128 (get_or c.loop-entry.row c.loop-entry.entry-index (pos 0)) = search rules in
    let q : SFits w128 c.quotient.result = search rules in
    simp to_z-of_z (record {
      items =
          divided_more c.args.row.now c.loop-entry.row c.loop-entry.entry-index
          c.row_gcd-common.result c.quotient.result (simp to_z-of_z at c.loop-entry.invariant.items)
          c.loop-entry-test.true c.loop-entry.auto.row (simp to_z-of_z at c.quotient.ensures.value);
      in_range =
          All-set InRange c.loop-entry.row c.loop-entry.entry-index c.quotient.result
          c.quotient.ensures.in_range c.loop-entry.invariant.in_range;
    })

pub returns-after-loop-entry-clause-reduced : goal.returns-after-loop-entry-clause-reduced
returns-after-loop-entry-clause-reduced c =
    let f : SFits w128 c.row_gcd-common.result = search rules in
    let p : pos 0 <ℤ c.row_gcd-common.result = omega (arith, ints) in
    reduced_from_quotients c.args.row.now c.loop-entry.row c.row_gcd-common.result p
    c.row_gcd-common.ensures.greatest
    (divided_all c.args.row.now c.loop-entry.row c.loop-entry.entry-index c.row_gcd-common.result
    (simp to_z-of_z at c.loop-entry.invariant.items) c.loop-entry-test.false)

pub returns-else-common-gt1-clause-reduced : goal.returns-else-common-gt1-clause-reduced
returns-else-common-gt1-clause-reduced c =
    let f : SFits w128 c.row_gcd-common.result = search rules in
    reduced_from_one c.args.row.now (unsigned_abs c.row_gcd-common.result) (omega (arith, ints))
    c.row_gcd-common.ensures.greatest
