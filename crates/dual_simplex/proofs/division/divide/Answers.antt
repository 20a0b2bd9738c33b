use Rattle.std.proofs.Common.{pos, SFits, rules, get_or}
use Rattle.std.proofs.lemmas.Int.{to_z-of_z}
use Rattle.std.specs.Int.{w128}
use Rattle.std.proofs.lemmas.List.Elements.{All-set}
use Rattle.flow_program.specs.integer_laws.Range.{InRange}
use Rattle.flow_program.proofs.exact_numbers.Cited.{divided_more, entry_left}
use Rattle.std.specs.Prelude.{int_div, unsigned_abs, ℤ}
use Rattle.std.specs.Int.{◌∣◌}
use Rattle.std.proofs.Common.{subst, sym}
use Rattle.dual_simplex.proofs.division.divide.Goals as goal

pub quotient-requires-clause-divides : goal.quotient-requires-clause-divides
quotient-requires-clause-divides c =
    let f = c.ranges.divisor in
    let e : SFits w128 (get_or c.loop-entry.row c.loop-entry.entry-index (pos 0)) = search rules in
    simp to_z-of_z
    (subst (λ (z : ℤ). unsigned_abs c.args.divisor ∣ unsigned_abs z)
    (sym
    (entry_left (λ x. int_div x c.args.divisor) c.args.row.now c.loop-entry.row
    c.loop-entry.entry-index (simp to_z-of_z at c.loop-entry.invariant.items)
    c.loop-entry-test.true))
    (c.requires.divides c.loop-entry.entry-index (pos 0) c.loop-entry-test.true))

pub loop-entry-preserved : goal.loop-entry-preserved
loop-entry-preserved c =
    let f = c.ranges.divisor in
    let e : SFits w128 (get_or c.loop-entry.row c.loop-entry.entry-index (pos 0)) = search rules in
    let q : SFits w128 c.quotient.result = search rules in
    simp to_z-of_z (record {
      items =
          divided_more c.args.row.now c.loop-entry.row c.loop-entry.entry-index c.args.divisor
          c.quotient.result (simp to_z-of_z at c.loop-entry.invariant.items) c.loop-entry-test.true
          c.loop-entry.auto.row (simp to_z-of_z at c.quotient.ensures.value);
      in_range =
          All-set InRange c.loop-entry.row c.loop-entry.entry-index c.quotient.result
          c.quotient.ensures.in_range c.loop-entry.invariant.in_range;
    })
