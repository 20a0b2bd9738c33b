use Rattle.std.proofs.Common.{SFits, rules, ◌≡◌, ◌<◌, ◌≤◌, ◌^◌, ◌*◌, ◌+◌, arith, sym, ap, subst, ℕ}
use Rattle.std.proofs.Common.{suc, ℤ, ◌+ℤ◌, ◌*ℤ◌, length, ◌∙◌, to_z}
use Rattle.std.specs.Prelude.{unsigned_abs}
use Rattle.std.specs.Int.{w128}
use Rattle.std.proofs.lemmas.Int.{to_z-of_z}
use Rattle.flow_program.specs.integer_laws.Total.{total_below}
use Rattle.flow_program.specs.flow_rules.LinearProgram.{LinearProgram, linear_of}
use Rattle.dual_simplex.proofs.RowSizeLemmas.{few_units}
use Rattle.dual_simplex.proofs.entries.flow_at_lows.Invariants.{IsSumTo}
use Rattle.dual_simplex.proofs.entries.flow_at_lows.Goals as goal

most : (i n : ℕ) (s : ℕ) → s ≤ i * 10 ^ 30 → i ≤ n → n ≤ 128 → s ≤ 128 * 10 ^ 30
most i n s h k l = omega (arith, h, k, l)

pub plus-sum-requires-clause-sum : goal.plus-sum-requires-clause-sum
plus-sum-requires-clause-sum c =
    let q = c.args.program.now in
    let n : length c.lows-unit-end.result.now ≡ length q.units =
    ap length c.lows-unit-end.ensures ∙ c.is_program.ensures.one_box in
    most c.loop-unit.unit (length q.units) _ c.loop-unit.invariant.small
    (let t = c.loop-unit-test.true in omega (arith, n, t)) (few_units q c.is_program.ensures)

more : (p : LinearProgram) (row : ℕ) (sum next product rate low : ℤ) (i : ℕ) → IsSumTo p row sum i
    → next ≡ sum +ℤ product → unsigned_abs next ≤ unsigned_abs sum + 10 ^ 30 → product ≡ rate *ℤ low
    → rate ≡ p.rate row i → low ≡ p.low i → IsSumTo p row next (i + 1)
more p row sum next product rate low i h e s v r l = record {
  value =
      subst (λ (k : ℕ). next ≡ total_below k (λ u. p.rate row u *ℤ p.low u)) one
      (e ∙ (λ j. h.value j +ℤ (v ∙ (λ k. r k *ℤ l k)) j));
  small = let m = h.small in omega (arith, s, m);
}
  where
    one : suc i ≡ i + 1
    one = omega arith

pub loop-unit-preserved : goal.loop-unit-preserved
loop-unit-preserved c =
    let r : SFits w128 c.rate.result = search rules in
    let l : SFits w128 c.low.result = search rules in
    let f : SFits w128 c.product-flow.result = search rules in
    let s : SFits w128 c.plus-sum.result = search rules in
    simp to_z-of_z
    (more (linear_of c.args.program.now) c.args.row (to_z w128 c.loop-unit.sum-bits)
    c.plus-sum.result c.product-flow.result c.rate.result c.low.result c.loop-unit.unit
    c.loop-unit.invariant
    (simp to_z-of_z at c.plus-sum.ensures.value) c.plus-sum.ensures.small
    (simp to_z-of_z at c.product-flow.ensures.value) c.rate.ensures.value c.low.ensures.value)

pub returns-clause-small : goal.returns-clause-small
returns-clause-small c =
    let q = c.args.program.now in
    let n : length c.lows-unit-end.result.now ≡ length q.units =
    ap length c.lows-unit-end.ensures ∙ c.is_program.ensures.one_box in
    most c.loop-unit.unit (length q.units) _ c.loop-unit.invariant.small
    (let t = c.loop-unit.auto.unit-end in omega (arith, n, t))
    (few_units q c.is_program.ensures)
