-- The columns of the start: which they are, and that they are a basis.
use Rattle.std.proofs.Common.{◌≡◌, ◌≢◌, ℕ, suc, ◌<◌, ◌≤◌, inl, inr, true, arith, ap, ◌∙◌}
use Rattle.std.specs.Prelude.{ℤ, pos, ◌+ℤ◌, ◌-ℤ◌, ◌*ℤ◌}
use Rattle.std.proofs.lemmas.Int.{ints}
use Rattle.std.proofs.lemmas.Bool.Decides.{eqb_tells, leb_tells}
use Rattle.flow_rules.specs.integer_laws.Total.{total_below}
use Rattle.flow_rules.proofs.integer_laws.Cited.{V, ◌⊖◌, ◌⊗◌, ring, total_below-same}
use Rattle.flow_rules.proofs.integer_laws.Cited.{total_below-zero}
use Rattle.flow_rules.specs.LinearProgram.{LinearProgram}
use Rattle.flow_rules.specs.Columns.{s_at, t_at, w_at, right_at, scale_at, start}
use Rattle.flow_rules.specs.Tableau.{IsIndependent}

pub start-has : (p : LinearProgram) (k : ℕ) → p.units ≤ k → k ≤ scale_at p → k ≢ right_at p
    → start p k ≡ true
start-has p k h l n =
    elim (leb_tells (suc k) p.units) [
      | inl (_, q) ↦ absurd (omega arith)
      | inr (e, _) ↦ elim (eqb_tells k (right_at p)) [
        | inl (_, q) ↦ absurd (n q)
        | inr (f, _) ↦ elim (leb_tells k (scale_at p)) [
          | inl (g, _) ↦ rw (e, f, g)
          | inr (_, q) ↦ absurd (omega arith)
        ]
      ]
    ]

pub start_independent : (p : LinearProgram) → IsIndependent p (start p)
start_independent p r c z k l =
    elim (leb_tells (suc k) p.units) [
      | inl (_, h) ↦ let h' : k < p.units = omega arith in c.at_x k h' ∙ x_zero k h'
      | inr (_, h) ↦ elim (eqb_tells k (right_at p)) [
        | inl (_, e) ↦ ap r e ∙ c.at_right ∙ right_zero
        | inr (_, e) ↦ z k (start-has p k (omega arith) l e)
      ]
    ]
  where
    at_s : (i : ℕ) → i < p.units → r (s_at p i) ≡ pos 0
    at_s i h =
        z (s_at p i)
        (start-has p (s_at p i) (omega arith) (omega arith) (λ e. absurd (omega arith)))

    at_t : (j : ℕ) → j < p.rows → r (t_at p j) ≡ pos 0
    at_t j h =
        z (t_at p j)
        (start-has p (t_at p j) (omega arith) (omega arith) (λ e. absurd (omega arith)))

    at_w : (j : ℕ) → j < p.rows → r (w_at p j) ≡ pos 0
    at_w j h =
        z (w_at p j)
        (start-has p (w_at p j) (omega arith) (omega arith) (λ e. absurd (omega arith)))

    at_scale : r (scale_at p) ≡ pos 0
    at_scale =
        z (scale_at p)
        (start-has p (scale_at p) (omega arith) (omega arith) (λ e. absurd (omega arith)))

    part : (w t a : ℤ) → w ≡ pos 0 → t ≡ pos 0 → (w -ℤ t) *ℤ a ≡ pos 0
    part w t a e f = ap (λ x. (x -ℤ t) *ℤ a) e ∙ ap (λ x. (pos 0 -ℤ x) *ℤ a) f
        ∙ ring ((V (pos 0) ⊖ V (pos 0)) ⊗ V a) (V (pos 0)) (omega arith)

    x_zero : (i : ℕ) → i < p.units
        → r (scale_at p) *ℤ p.cost i +ℤ r (s_at p i) +ℤ total_below p.rows
        (λ j. (r (w_at p j) -ℤ r (t_at p j)) *ℤ p.rate j i) ≡ pos 0
    x_zero i h =
        let q =
        total_below-same p.rows (λ j. (r (w_at p j) -ℤ r (t_at p j)) *ℤ p.rate j i) (λ j. pos 0)
        (λ j hj. part (r (w_at p j)) (r (t_at p j)) (p.rate j i) (at_w j hj) (at_t j hj))
        ∙ total_below-zero p.rows in
        let a = ap (λ x. x *ℤ p.cost i) at_scale in
        let b = at_s i h in
        omega (arith, ints, q, a, b)

    band : (w t a b : ℤ) → w ≡ pos 0 → t ≡ pos 0 → (w -ℤ t) *ℤ a +ℤ w *ℤ b ≡ pos 0
    band w t a b e f = let x = part w t a e f in let y =
        ap (λ z. z *ℤ b) e in omega (arith, ints, x, y)

    right_zero : total_below p.units (λ i. r (s_at p i) *ℤ (p.high i -ℤ p.low i)) +ℤ total_below
        p.rows
        (λ j. (r (w_at p j) -ℤ r (t_at p j)) *ℤ
        (p.floor j -ℤ total_below p.units (λ i. p.rate j i *ℤ p.low i)) +ℤ r (w_at p j) *ℤ
        (p.ceiling j -ℤ p.floor j)) ≡ pos 0
    right_zero =
        let a =
        total_below-same p.units (λ i. r (s_at p i) *ℤ (p.high i -ℤ p.low i)) (λ i. pos 0)
        (λ i h. let x = ap (λ z. z *ℤ (p.high i -ℤ p.low i)) (at_s i h) in
        zero_times (r (s_at p i)) (p.high i -ℤ p.low i) (at_s i h))
        ∙ total_below-zero p.units in
        let b =
        total_below-same p.rows
        (λ j. (r (w_at p j) -ℤ r (t_at p j)) *ℤ
        (p.floor j -ℤ total_below p.units (λ i. p.rate j i *ℤ p.low i)) +ℤ r (w_at p j) *ℤ
        (p.ceiling j -ℤ p.floor j)) (λ j. pos 0)
        (λ j h. band (r (w_at p j)) (r (t_at p j))
        (p.floor j -ℤ total_below p.units (λ i. p.rate j i *ℤ p.low i))
        (p.ceiling j -ℤ p.floor j) (at_w j h) (at_t j h)) ∙ total_below-zero p.rows in
        omega (arith, ints, a, b)
      where
        zero_times : (x y : ℤ) → x ≡ pos 0 → x *ℤ y ≡ pos 0
        zero_times x y e = ap (λ z. z *ℤ y) e ∙ ring (V (pos 0) ⊗ V y) (V (pos 0)) (omega arith)
