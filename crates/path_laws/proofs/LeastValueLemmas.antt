-- The multipliers of a last cost row have the least relaxed cost as their bound.
use Rattle.std.proofs.Common.{◌≡◌, ℕ, ◌<◌, ◌≤◌, inl, inr, arith, ap, sym, ◌∙◌, subst}
use Rattle.std.specs.Prelude.{ℤ, pos, ◌+ℤ◌, ◌-ℤ◌, ◌*ℤ◌, ◌<ℤ◌, ◌≤ℤ◌}
use Rattle.std.proofs.lemmas.Int.{ints}
use Rattle.path_laws.proofs.RowBoundLemmas.{bound_of_row, IsNonNegative}
use Rattle.flow_rules.proofs.integer_laws.Cited.{mul_nonneg, V, ◌⊖◌, ◌⊗◌, ring, read_equal, read_le}
use Rattle.flow_rules.specs.integer_laws.Total.{total_below}
use Rattle.flow_rules.specs.Columns.{Basis, Has, x_at, right_at, scale_at, columns}
use Rattle.flow_rules.specs.Equations.{IsSolution, IsCombination}
use Rattle.flow_rules.specs.LinearProgram.{LinearProgram}
use Rattle.flow_rules.specs.Multipliers.{multiplier}
use Rattle.flow_rules.specs.Tableau.{IsComplete}
use Rattle.path_laws.proofs.BasicLemmas.{IsUnitary, IsBasic, basic_solves}
use Rattle.path_laws.proofs.BoolLemmas.{bool_cases}
use Rattle.path_laws.proofs.SolvedLemmas.{relaxed_of, cost_of}
use Rattle.path_laws.proofs.Relaxed.{relaxed_cost, bound, IsRelaxedFlow, IsOpen}

-- Take a tableau whose cost row has no entry below 0 at a column and whose right sides are at least
-- 0. Its basic solution is relaxed flows. The bound of the cost row's multipliers, over the scale,
-- is their relaxed cost. That no bound is above a relaxed cost is an argument.
pub least_at : (p : LinearProgram) (b : Basis) (T : ℕ → ℕ → ℤ) → IsOpen p → IsUnitary p b T
    → IsCombination p (T (scale_at p)) → IsComplete p b T → IsNonNegative p (T (scale_at p))
    → ((c : ℕ) → Has b c → c < columns p → pos 0 ≤ℤ T c (right_at p))
    → ((c : ℕ) → Has b c → c ≤ scale_at p)
    → ((Z : ℕ → ℤ) (d : ℤ) → IsRelaxedFlow p Z d
    → (bound p (T (scale_at p) (scale_at p)) (multiplier p (T (scale_at p))) *ℤ d)
    ≤ℤ (T (scale_at p) (scale_at p) *ℤ relaxed_cost p Z d)) → (v : ℕ → ℤ) (d : ℤ)
    → IsBasic p b T v d → IsRelaxedFlow p (λ i. v (x_at p i) +ℤ p.low i *ℤ d) d
    × (bound p (T (scale_at p) (scale_at p)) (multiplier p (T (scale_at p))) *ℤ d
    ≡ T (scale_at p) (scale_at p) *ℤ relaxed_cost p (λ i. v (x_at p i) +ℤ p.low i *ℤ d) d)
least_at p b T o u cs comp nn right inside weak_duality v d s =
    let sol : IsSolution p v d =
    comp v d s.at_right (λ c h. basic_solves p b T v d u s c h (inside c h)) in
    let flows = relaxed_of p v d s.positive sol (values v d s) in
    let (k, pk, e, g) = s.basic (scale_at p) u.scale (omega arith) in
    let says : D *ℤ v (scale_at p) ≡ r *ℤ d = said D (v (scale_at p)) k r d e g in
    let cost = cost_of p v d D r sol says in
    let low = bound_of_row p (T (scale_at p)) o cs nn in
    let weak = weak_duality (λ i. v (x_at p i) +ℤ p.low i *ℤ d) d flows in (
      flows,
      between (bound p D (multiplier p (T (scale_at p)))) d
          (D *ℤ relaxed_cost p (λ i. v (x_at p i) +ℤ p.low i *ℤ d) d)
          (D *ℤ p.fixed +ℤ D *ℤ total_below p.units (λ i. p.cost i *ℤ p.low i) -ℤ r) s.positive low
          cost weak,
    )
  where
    D : ℤ
    D = T (scale_at p) (scale_at p)

    r : ℤ
    r = T (scale_at p) (right_at p)

    said : (D v k r d : ℤ) → v ≡ k *ℤ r → d ≡ k *ℤ D → D *ℤ v ≡ r *ℤ d
    said D v k r d e g = ap (λ x. D *ℤ x) e
        ∙ ring (V D ⊗ (V k ⊗ V r)) (V r ⊗ (V k ⊗ V D)) (omega arith) ∙ ap (λ x. r *ℤ x) (sym g)

    values : (v : ℕ → ℤ) (d : ℤ) → IsBasic p b T v d → (k : ℕ) → k < columns p → pos 0 ≤ℤ v k
    values v d s k h = elim (bool_cases (b k)) [
      | inl bk ↦
          let (q, pq, e, g) = s.basic k bk (omega arith) in
          subst (λ x. pos 0 ≤ℤ x) (sym e)
          (mul_nonneg q (T k (right_at p)) (weaken pq) (right k bk h))
      | inr bk
          ↦ subst (λ x. pos 0 ≤ℤ x) (sym (s.outside k bk (λ q. absurd (omega arith))))
          (omega (arith, ints))
    ]
      where
        weaken : {z : ℤ} → pos 0 <ℤ z → pos 0 ≤ℤ z
        weaken h = omega (arith, ints)

    between : (B d C q : ℤ) → pos 0 <ℤ d → q ≤ℤ B → C ≡ q *ℤ d → (B *ℤ d) ≤ℤ C → B *ℤ d ≡ C
    between B d C q pd h e w =
        let x = mul_nonneg d (B -ℤ q) (omega (arith, ints)) (omega (arith, ints)) in
        let x' = read_le (V (pos 0)) (V d ⊗ (V B ⊖ V q)) x in
        let e' = read_equal (V C) (V q ⊗ V d) e in
        let w' = read_le (V B ⊗ V d) (V C) w in
        ring (V B ⊗ V d) (V C) (omega (arith, x', e', w'))
