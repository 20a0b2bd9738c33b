-- Two numbers in lowest terms: how they are formed, that there is one such pair, and what they say
-- of fractions.
use Rattle.std.proofs.Common.{◌≡◌, ℕ, ◌*◌, ◌%◌, ◌/◌, ℤ, pos, negsuc, ◌*ℤ◌, ◌≤ℤ◌, ◌<ℤ◌, sym, ap, ◌∙◌}
use Rattle.std.proofs.Common.{subst, arith}
use Rattle.std.specs.Prelude.{unsigned_abs}
use Rattle.std.specs.Int.{IsGcd, ◌∣◌}
use Rattle.std.proofs.lemmas.Int.{ints, unsigned_abs-mul}
use Rattle.std.proofs.lemmas.Nat.Gcd.{same_from_IsGcd, mod-eq-zero_of_dvd, IsGcd-swap}
use Rattle.std.proofs.Math.Nat.{mul_comm, dvd-mul_right}
use Rattle.integer_laws.proofs.Cited.{V, ◌⊗◌, ring, mul_comm_z, cancel, pos_of-mul, IsGcd-mul}
use Rattle.integer_laws.proofs.Cited.{dvd_of_coprime, gcd_positive, lowest_of-gcd}
use Rattle.integer_laws.specs.Lowest.{IsLowest}

-- what is left after division by the greatest common divisor is in lowest terms
pub is_lowest : (x y g p q : ℤ) → pos 0 ≤ℤ g
    → IsGcd (unsigned_abs x) (unsigned_abs y) (unsigned_abs g) → g *ℤ p ≡ x → g *ℤ q ≡ y
    → IsLowest x y p q
is_lowest x y (pos g) p q n h e f = record { common = g; is_gcd = h; x-is = sym e; y-is = sym f }
is_lowest x y (negsuc g) p q n h e f = absurd n.le

-- with y above 0 the common divisor is above 0, and so is the second of the two
pub common_positive : {x y p q : ℤ} → pos 0 <ℤ y → (h : IsLowest x y p q) → pos 0 <ℤ pos h.common
common_positive {x} {y} h l = gcd_positive x y (pos l.common) h (omega (arith, ints)) l.is_gcd

pub lowest_positive : {x y p q : ℤ} → pos 0 <ℤ y → IsLowest x y p q → pos 0 <ℤ q
lowest_positive {x} {y} {p} {q} h l =
    pos_of-mul (pos l.common) q (common_positive h l) (subst (λ (z : ℤ). pos 0 <ℤ z) l.y-is h)

pub lowest_first_positive : {x y p q : ℤ} → pos 0 <ℤ x → IsLowest x y p q → pos 0 <ℤ p
lowest_first_positive {x} {y} {p} {q} h l =
    let g =
    gcd_positive y x (pos l.common) h (omega (arith, ints))
    (IsGcd-swap (unsigned_abs x) (unsigned_abs y) l.common l.is_gcd) in
    pos_of-mul (pos l.common) p g (subst (λ (z : ℤ). pos 0 <ℤ z) l.x-is h)

pub lowest_coprime : {x y p q : ℤ} → pos 0 <ℤ y → IsLowest x y p q
    → IsGcd (unsigned_abs p) (unsigned_abs q) 1
lowest_coprime {x} {y} {p} {q} h l =
    lowest_of-gcd (pos l.common) p q x y (common_positive h l) (sym l.x-is) (sym l.y-is) l.is_gcd

-- the same number as a fraction
pub lowest_cross : {x y p q : ℤ} → IsLowest x y p q → p *ℤ y ≡ x *ℤ q
lowest_cross {x} {y} {p} {q} l =
    ap (λ (z : ℤ). p *ℤ z) l.y-is
    ∙ (ring (V p ⊗ (V (pos l.common) ⊗ V q)) ((V (pos l.common) ⊗ V p) ⊗ V q) (omega arith)
    ∙ ap (λ (z : ℤ). z *ℤ q) (sym l.x-is))

-- there is one such pair
pub lowest_same : {x y p q r s : ℤ} → pos 0 <ℤ y → IsLowest x y p q → IsLowest x y r s → (p ≡ r)
    × (q ≡ s)
lowest_same {x} {y} {p} {q} {r} {s} h l m =
    let g : l.common ≡ m.common =
    same_from_IsGcd (unsigned_abs x) (unsigned_abs y) l.common m.common l.is_gcd m.is_gcd in
    let k = common_positive h l in (
      cancel (pos l.common) p r k (sym l.x-is ∙ (m.x-is ∙ ap (λ (n : ℕ). pos n *ℤ r) (sym g))),
      cancel (pos l.common) q s k (sym l.y-is ∙ (m.y-is ∙ ap (λ (n : ℕ). pos n *ℤ s) (sym g))),
    )

-- a common factor changes nothing
pub lowest_scaled : {x y p q : ℤ} (k : ℕ) → IsLowest x y p q
    → IsLowest (pos k *ℤ x) (pos k *ℤ y) p q
lowest_scaled {x} {y} {p} {q} k l = record {
  common = l.common * k;
  is_gcd =
      let by : (z : ℤ) → unsigned_abs z * k ≡ unsigned_abs (pos k *ℤ z) =
      λ z. mul_comm (unsigned_abs z) k ∙ sym (unsigned_abs-mul (pos k) z) in
      subst (λ (n : ℕ). IsGcd n (unsigned_abs (pos k *ℤ y)) (l.common * k)) (by x)
      (subst (λ (n : ℕ). IsGcd (unsigned_abs x * k) n (l.common * k)) (by y)
      (IsGcd-mul (unsigned_abs x) (unsigned_abs y) l.common k l.is_gcd));
  x-is = ap (λ (z : ℤ). pos k *ℤ z) l.x-is ∙ turn p;
  y-is = ap (λ (z : ℤ). pos k *ℤ z) l.y-is ∙ turn q;
}
  where
    turn : (z : ℤ) → pos k *ℤ (pos l.common *ℤ z) ≡ pos (l.common * k) *ℤ z
    turn z =
        ring (V (pos k) ⊗ (V (pos l.common) ⊗ V z)) ((V (pos l.common) ⊗ V (pos k)) ⊗ V z)
        (omega arith)

lowest_by : (x p : ℤ) (y q k : ℕ) → pos 0 <ℤ pos q → IsGcd (unsigned_abs p) q 1
    → p *ℤ pos y ≡ x *ℤ pos q → k * q ≡ y → IsLowest x (pos y) p (pos q)
lowest_by x p y q k hq h e whole =
    let y-is : pos y ≡ pos k *ℤ pos q = ap pos (sym whole) ∙ omega (arith, ints) in
    let x-is : x ≡ pos k *ℤ p = cancel (pos q) x (pos k *ℤ p) hq
    (mul_comm_z (pos q) x
    ∙ (sym e
    ∙ (ap (λ (z : ℤ). p *ℤ z) y-is
    ∙ ring (V p ⊗ (V (pos k) ⊗ V (pos q))) (V (pos q) ⊗ (V (pos k) ⊗ V p)) (omega arith)))) in
    let size : unsigned_abs p * k ≡ unsigned_abs x =
    mul_comm (unsigned_abs p) k
    ∙ (sym (unsigned_abs-mul (pos k) p) ∙ ap unsigned_abs (sym x-is)) in
    let one : 1 * k ≡ k = omega arith in
    record {
      common = k;
      is_gcd =
          subst (λ (n : ℕ). IsGcd n y k) size
          (subst (λ (n : ℕ). IsGcd (unsigned_abs p * k) n k) (mul_comm q k ∙ whole)
          (subst (λ (n : ℕ). IsGcd (unsigned_abs p * k) (q * k) n) one
          (IsGcd-mul (unsigned_abs p) q 1 k h)));
      x-is = x-is;
      y-is = y-is;
    }

-- numbers without a common divisor that have the same ratio are the lowest terms
pub lowest_from_cross : (x y p q : ℤ) → pos 0 <ℤ y → pos 0 <ℤ q
    → IsGcd (unsigned_abs p) (unsigned_abs q) 1 → p *ℤ y ≡ x *ℤ q → IsLowest x y p q
lowest_from_cross x (pos y) p (pos q) hy hq h e =
    let size : unsigned_abs p * y ≡ unsigned_abs x * q =
    sym (unsigned_abs-mul p (pos y)) ∙ (ap unsigned_abs e ∙ unsigned_abs-mul x (pos q)) in
    let over : q ∣ unsigned_abs p * y =
    subst (λ (n : ℕ). q ∣ n) (mul_comm q (unsigned_abs x) ∙ sym size)
    (dvd-mul_right q (unsigned_abs x)) in
    let in_y : q ∣ y =
    dvd_of_coprime q (unsigned_abs p) y (IsGcd-swap (unsigned_abs p) q 1 h) over in
    let none : y % q ≡ 0 = mod-eq-zero_of_dvd q in_y in
    let whole : (y / q) * q ≡ y = omega arith in
    lowest_by x p y q (y / q) hq h e whole
lowest_from_cross x (negsuc y) p q hy hq h e = absurd hy.lt
lowest_from_cross x (pos y) p (negsuc q) hy hq h e = absurd hq.lt
