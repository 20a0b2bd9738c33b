-- The flows that are read off a basis: their common denominator takes each value, and they are the
-- basic solution over it.
use Rattle.std.proofs.Common.{◌≡◌, ◌≢◌, ℕ, zero, suc, ◌*◌, ◌<◌, ◌≤◌, inl, inr, arith, refl, ap, sym}
use Rattle.std.proofs.Common.{◌∙◌, subst}
use Rattle.std.specs.Prelude.{ℤ, pos, negsuc, ◌+ℤ◌, ◌*ℤ◌, ◌<ℤ◌, ◌≤ℤ◌, int_div, unsigned_abs}
use Rattle.std.specs.Int.{◌∣◌}
use Rattle.std.proofs.lemmas.Int.{ints}
use Rattle.std.proofs.lemmas.Bool.Decides.{eqb_tells}
use Rattle.std.proofs.lemmas.Nat.Gcd.{dvd_trans, dvd_refl}
use Rattle.std.proofs.Math.Nat.{dvd-mul_right, dvd-mul_left, eq-zero_of_zero-dvd}
use Rattle.exact_numbers.proofs.Cited.{quotient_exact}
use Rattle.flow_rules.proofs.integer_laws.Cited.{V, ◌⊕◌, ◌⊗◌, ring, mul_comm_z, pos_of-mul}
use Rattle.flow_rules.specs.LinearProgram.{LinearProgram}
use Rattle.flow_rules.specs.Columns.{Basis, x_at, right_at, scale_at}
use Rattle.flow_rules.specs.ReadFlows.{AreValues, size}
use Rattle.path_laws.proofs.BoolLemmas.{bool_cases}
use Rattle.path_laws.proofs.BasicLemmas.{IsUnitary, IsBasic}
use Rattle.path_laws.proofs.ReadLemmas.{size_same}

-- a factor that makes a number above 0 out of a natural one is above 0
own_positive : (c : ℕ) (q : ℤ) → pos 0 <ℤ (pos c *ℤ q) → pos 0 <ℤ q
own_positive zero q h = absurd (omega (arith, ints))
own_positive (suc c) q h = pos_of-mul (pos (suc c)) q (omega (arith, ints)) h

abs_positive : (z : ℤ) → pos 0 <ℤ z → 0 < unsigned_abs z
abs_positive (pos n) h = omega (arith, ints)
abs_positive (negsuc n) h = absurd (omega (arith, ints))

not_zero : (z : ℤ) → pos 0 ≤ℤ z → unsigned_abs z ≢ 0 → pos 0 <ℤ z
not_zero (pos zero) h n = absurd (n refl)
not_zero (pos (suc k)) h n = omega (arith, ints)
not_zero (negsuc k) h n = absurd (omega (arith, ints))

-- a number that divides one above 0 is not 0
divisor_positive : (a c : ℕ) → 0 < c → a ∣ c → a ≢ 0
divisor_positive a c h d e = let z : c ≡ 0 =
    eq-zero_of_zero-dvd (subst (λ k. k ∣ c) e d) in absurd (omega (arith, z))

product_positive : (a b : ℕ) → 0 < a → 0 < b → 0 < a * b
product_positive (suc a) (suc b) h k = omega arith
product_positive zero b h k = absurd (omega arith)
product_positive (suc a) zero h k = absurd (omega arith)

module _ (p : LinearProgram) (b : Basis) (T : ℕ → ℕ → ℤ) (own right den : ℕ → ℤ)
    (s : AreValues p b T own right den) (u : IsUnitary p b T) where
  pub own-positive : (i : ℕ) → i < p.units → pos 0 <ℤ own i
  own-positive i h = elim (bool_cases (b (x_at p i))) [
    | inl e ↦ let w = s.basic i h e in
        own_positive w.common (own i) (subst (λ z. pos 0 <ℤ z) w.y-is (u.own (x_at p i) e))
    | inr e ↦ subst (λ z. pos 0 <ℤ z) (sym (s.outside-own i h e)) (omega (arith, ints))
  ]

  pub den-positive : (i : ℕ) → i ≤ p.units → pos 0 <ℤ den i
  den-positive zero h = subst (λ z. pos 0 <ℤ z) (sym s.first) (omega (arith, ints))
  den-positive (suc i) h =
      let l : i < p.units = omega arith in
      let m = s.next i l in
      let a = abs_positive (den i) (den-positive i (omega arith)) in
      let c = abs_positive (own i) (own-positive i l) in
      not_zero (den (suc i)) (s.not_negative i l)
      (divisor_positive (unsigned_abs (den (suc i))) (unsigned_abs (den i) * unsigned_abs (own i))
      (product_positive (unsigned_abs (den i)) (unsigned_abs (own i)) a c)
      (m.least (unsigned_abs (den i) * unsigned_abs (own i))
      (dvd-mul_right (unsigned_abs (den i)) (unsigned_abs (own i)))
      (dvd-mul_left (unsigned_abs (own i)) (unsigned_abs (den i)))))

  chain : (k i : ℕ) → k ≤ p.units → i ≤ k → unsigned_abs (den i) ∣ unsigned_abs (den k)
  chain zero i h l = let e : i ≡ 0 = omega arith in
      subst (λ j. unsigned_abs (den j) ∣ unsigned_abs (den 0)) (sym e)
      (dvd_refl (unsigned_abs (den 0)))
  chain (suc k) i h l =
      elim (eqb_tells i (suc k)) [
        | inl (_, e)
            ↦ subst (λ j. unsigned_abs (den j) ∣ unsigned_abs (den (suc k))) (sym e)
            (dvd_refl (unsigned_abs (den (suc k))))
        | inr (_, n)
            ↦ dvd_trans (unsigned_abs (den i)) (chain k i (omega arith) (omega arith))
            ((s.next k (omega arith)).left)
      ]

  -- the last common denominator takes each value
  taken : (i : ℕ) → i < p.units → den p.units ≡ int_div (den p.units) (own i) *ℤ own i
  taken i h =
      sym (quotient_exact (den p.units) (own i) (own-positive i h)
      (dvd_trans (unsigned_abs (own i)) ((s.next i h).right)
      (chain p.units (suc i) (omega arith) (omega arith))))
      ∙ mul_comm_z (own i) (int_div (den p.units) (own i))

  -- the sizes are those of a basic solution, as fractions
  pub sizes_same : (v : ℕ → ℤ) (m : ℤ) → IsBasic p b T v m → (i : ℕ) → i < p.units
      → size p own right den i *ℤ m ≡ (v (x_at p i) +ℤ p.low i *ℤ m) *ℤ den p.units
  sizes_same v m w i h = elim (bool_cases (b (x_at p i))) [
    | inl e ↦
        let (o, po, f, g) = w.basic (x_at p i) e (inside i h) in
        let l = s.basic i h e in
        turned (int_div (den p.units) (own i) *ℤ right i) (p.low i *ℤ den p.units) m
        ∙ size_same (p.low i) (den p.units) (own i) (int_div (den p.units) (own i)) (right i) o
        (T (x_at p i) (right_at p)) (T (x_at p i) (x_at p i)) (v (x_at p i)) m (taken i h)
        (crossed l.common (own i) (right i) (T (x_at p i) (right_at p)) (T (x_at p i) (x_at p i))
        l.x-is l.y-is) f g
    | inr e ↦
        turned (int_div (den p.units) (own i) *ℤ right i) (p.low i *ℤ den p.units) m
        ∙ size_same (p.low i) (den p.units) (own i) (int_div (den p.units) (own i)) (right i) m
        (pos 0) (pos 1) (v (x_at p i)) m (taken i h)
        (nothing (own i) (right i) (s.outside-right i h e))
        (w.outside (x_at p i) e (apart i h) ∙ none m) (one m)
  ]
    where
      inside : (i : ℕ) → i < p.units → x_at p i ≤ scale_at p
      inside i h = omega arith

      apart : (i : ℕ) → i < p.units → x_at p i ≢ right_at p
      apart i h q = absurd (omega arith)

      turned : (a c m : ℤ) → (c +ℤ a) *ℤ m ≡ (a +ℤ c) *ℤ m
      turned a c m = ring ((V c ⊕ V a) ⊗ V m) ((V a ⊕ V c) ⊗ V m) (omega arith)

      crossed : (c : ℕ) (q r r' q' : ℤ) → r' ≡ pos c *ℤ r → q' ≡ pos c *ℤ q → q *ℤ r' ≡ r *ℤ q'
      crossed c q r r' q' e f = ap (λ z. q *ℤ z) e
          ∙ ring (V q ⊗ (V (pos c) ⊗ V r)) (V r ⊗ (V (pos c) ⊗ V q)) (omega arith)
          ∙ ap (λ z. r *ℤ z) (sym f)

      nothing : (q r : ℤ) → r ≡ pos 0 → q *ℤ pos 0 ≡ r *ℤ pos 1
      nothing q r e = ring (V q ⊗ V (pos 0)) (V (pos 0) ⊗ V (pos 1)) (omega arith)
          ∙ ap (λ z. z *ℤ pos 1) (sym e)

      none : (m : ℤ) → pos 0 ≡ m *ℤ pos 0
      none m = ring (V (pos 0)) (V m ⊗ V (pos 0)) (omega arith)

      one : (m : ℤ) → m ≡ m *ℤ pos 1
      one m = ring (V m) (V m ⊗ V (pos 1)) (omega arith)
