-- Fractions in lowest terms: a numerator, and a denominator above 0, without a common divisor above
-- 1.
use Rattle.std.proofs.Common.{◌≡◌, ℕ, zero, suc, ◌*◌, ◌<◌, ℤ, pos, negsuc, ◌*ℤ◌, ◌≤ℤ◌, ◌<ℤ◌, refl}
use Rattle.std.proofs.Common.{sym, ap, ◌∙◌, subst, arith}
use Rattle.std.specs.Prelude.{unsigned_abs}
use Rattle.std.specs.Int.{IsGcd, ◌∣◌}
use Rattle.std.proofs.lemmas.Int.{ints, unsigned_abs-mul}
use Rattle.std.proofs.Math.Nat.{mul-dvd-mul_right, dvd_of_mul-dvd-mul_right, dvd-mul_right}
use Rattle.std.proofs.Math.Nat.{eq-zero_of_zero-dvd, mul_comm}
use Rattle.std.proofs.lemmas.Nat.Gcd.{IsGcd-swap, dvd_antisymm}
use Rattle.integer_laws.proofs.Coprime.{dvd_of_coprime, one_divides}
use Rattle.integer_laws.proofs.Ring.{mul_comm_z}
use Rattle.integer_laws.proofs.Order.{cancel}

abs_of : (d : ℤ) → pos 0 <ℤ d → pos (unsigned_abs d) ≡ d
abs_of (pos n) h = refl
abs_of (negsuc n) h = absurd h.lt

-- two fractions of the same value, in absolute values
abs_cross : (n d m e : ℤ) → n *ℤ e ≡ m *ℤ d
    → unsigned_abs n * unsigned_abs e ≡ unsigned_abs m * unsigned_abs d
abs_cross n d m e h = sym (unsigned_abs-mul n e) ∙ ap unsigned_abs h ∙ unsigned_abs-mul m d

-- d divides n * e = m * d and has no divisor in common with n, so it divides e
den_divides : (n d m e : ℕ) → IsGcd n d 1 → n * e ≡ m * d → d ∣ e
den_divides n d m e h k =
    dvd_of_coprime d n e (IsGcd-swap n d 1 h)
    (subst (λ (x : ℕ). d ∣ x) (mul_comm d m ∙ sym k) (dvd-mul_right d m))

-- a fraction has one form in lowest terms
pub lowest_unique : (n d m e : ℤ) → pos 0 <ℤ d → pos 0 <ℤ e
    → IsGcd (unsigned_abs n) (unsigned_abs d) 1 → IsGcd (unsigned_abs m) (unsigned_abs e) 1
    → n *ℤ e ≡ m *ℤ d → (n ≡ m) × (d ≡ e)
lowest_unique n d m e pd pe h k c =
    let a = abs_cross n d m e c in
    let same : unsigned_abs d ≡ unsigned_abs e =
    dvd_antisymm
    (den_divides (unsigned_abs n) (unsigned_abs d) (unsigned_abs m) (unsigned_abs e) h a)
    (den_divides (unsigned_abs m) (unsigned_abs e) (unsigned_abs n) (unsigned_abs d) k
    (sym a)) in
    let den : d ≡ e = sym (abs_of d pd) ∙ (ap pos same ∙ abs_of e pe) in
    let cross : d *ℤ n ≡ d *ℤ m = mul_comm_z d n
    ∙ (ap (λ (z : ℤ). n *ℤ z) den ∙ (c ∙ mul_comm_z m d)) in
    (cancel d n m pd cross, den)

-- the greatest common divisor with a number above 0 is above 0
pub gcd_positive : (a b g : ℤ) → pos 0 <ℤ b → pos 0 ≤ℤ g
    → IsGcd (unsigned_abs a) (unsigned_abs b) (unsigned_abs g) → pos 0 <ℤ g
gcd_positive a b (pos (suc k)) p q h = omega (arith, ints)
gcd_positive a (pos (suc n)) (pos zero) p q h = let e =
    eq-zero_of_zero-dvd h.1 in absurd (omega arith)
gcd_positive a (pos zero) (pos zero) p q h = absurd p.lt
gcd_positive a (negsuc n) (pos zero) p q h = absurd p.lt
gcd_positive a b (negsuc k) p q h = absurd q.le

pub lowest_parts : (n d g : ℕ) → 0 < g → IsGcd (n * g) (d * g) g → IsGcd n d 1
lowest_parts n d g p h = (
  one_divides n,
  one_divides d,
  λ e a b. dvd_of_mul-dvd-mul_right e p
      (let one : 1 * g ≡ g = omega arith in
      subst (λ m. e * g ∣ m) (sym one)
      (h.2 (e * g) (mul-dvd-mul_right e a g) (mul-dvd-mul_right e b g))),
)

-- what is left after division by the greatest common divisor is in lowest terms
pub lowest_of-gcd : (g n d num den : ℤ) → pos 0 <ℤ g → g *ℤ n ≡ num → g *ℤ d ≡ den
    → IsGcd (unsigned_abs num) (unsigned_abs den) (unsigned_abs g)
    → IsGcd (unsigned_abs n) (unsigned_abs d) 1
lowest_of-gcd (pos zero) n d num den p e h k = absurd p.lt
lowest_of-gcd (negsuc m) n d num den p e h k = absurd p.lt
lowest_of-gcd (pos (suc m)) n d num den p e h k =
    let g = suc m in
    let en : unsigned_abs num ≡ unsigned_abs n * g =
    ap unsigned_abs (sym e) ∙ (unsigned_abs-mul (pos g) n ∙ mul_comm g (unsigned_abs n)) in
    let ed : unsigned_abs den ≡ unsigned_abs d * g =
    ap unsigned_abs (sym h) ∙ (unsigned_abs-mul (pos g) d ∙ mul_comm g (unsigned_abs d)) in
    lowest_parts (unsigned_abs n) (unsigned_abs d) g (omega arith)
    (subst (λ (a : ℕ). IsGcd a (unsigned_abs d * g) g) en
    (subst (λ (b : ℕ). IsGcd (unsigned_abs num) b g) ed k))

pub part_divides : (g n num : ℤ) → g *ℤ n ≡ num → unsigned_abs n ∣ unsigned_abs num
part_divides g n num e =
    subst (λ (x : ℕ). unsigned_abs n ∣ x)
    (mul_comm (unsigned_abs n) (unsigned_abs g) ∙ (sym (unsigned_abs-mul g n) ∙ ap unsigned_abs e))
    (dvd-mul_right (unsigned_abs n) (unsigned_abs g))
