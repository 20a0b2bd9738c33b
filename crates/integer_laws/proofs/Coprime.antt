-- Greatest common divisors of multiples, and Euclid's lemma.
use Rattle.std.proofs.Common.{◌≡◌, ℕ, zero, suc, ◌+◌, ◌*◌, ◌-◌, ◌≤◌, refl, sym, ap, arith, subst}
use Rattle.std.proofs.Common.{⊎_elim}
use Rattle.std.specs.Int.{IsGcd, ◌∣◌}
use Rattle.std.proofs.lemmas.Bool.{cases_lt}
use Rattle.std.proofs.lemmas.Nat.Gcd.{IsGcd-from_zero, IsGcd-swap, IsGcd-from_sub, same_from_IsGcd}
use Rattle.std.proofs.lemmas.Nat.Gcd.{dvd_trans, dvd_refl}
use Rattle.std.proofs.Math.Nat.{mul-le-mul_right, dvd-mul_right}

-- a greatest common divisor of a and b, which is one of their multiples too
pub record HasGcd (a b : ℕ) : Type 0 where
  pub g : ℕ
  pub is_gcd : IsGcd a b g
  pub scaled : (c : ℕ) → IsGcd (a * c) (b * c) (g * c)

swapped : (a b : ℕ) → HasGcd b a → HasGcd a b
swapped a b h =
    record {
      g = h.g;
      is_gcd = IsGcd-swap b a h.g h.is_gcd;
      scaled =
          λ c. IsGcd-swap (b * c) (a * c) (h.g * c) (h.scaled c);
    }

at_zero : (a : ℕ) → HasGcd a 0
at_zero a =
    record {
      g = a;
      is_gcd = IsGcd-from_zero a 0 refl;
      scaled =
          λ c. IsGcd-from_zero (a * c) (0 * c) (omega arith);
    }

less_multiple : (a b c : ℕ) → b ≤ a → a * c - b * c ≡ (a - b) * c
less_multiple a b c h =
    let e : b + (a - b) ≡ a = omega arith in
    let m : (b + (a - b)) * c ≡ a * c = ap (λ (n : ℕ). n * c) e in
    omega arith

from_less : (a b : ℕ) → b ≤ a → HasGcd (a - b) b → HasGcd a b
from_less a b le h = record {
  g = h.g;
  is_gcd = IsGcd-from_sub a b h.g le h.is_gcd;
  scaled = λ c. IsGcd-from_sub (a * c) (b * c) (h.g * c) (mul-le-mul_right c le)
      (let P : ℕ → Type 0 = λ n. IsGcd n (b * c) (h.g * c) in
      subst P (sym (less_multiple a b c le)) (h.scaled c));
}

has_gcd : (fuel a b : ℕ) → a + b ≤ fuel → HasGcd a b
has_gcd fuel a zero h = at_zero a
has_gcd fuel zero (suc b) h = swapped 0 (suc b) (at_zero (suc b))
has_gcd zero (suc a) (suc b) h = absurd (omega arith)
has_gcd (suc fuel) (suc a) (suc b) h =
    ⊎_elim
    (λ l. swapped (suc a) (suc b)
    (from_less (suc b) (suc a) (omega arith)
    (has_gcd fuel (suc b - suc a) (suc a) (omega arith))))
    (λ l. from_less (suc a) (suc b) l (has_gcd fuel (suc a - suc b) (suc b) (omega arith)))
    (cases_lt (suc a) (suc b))

pub IsGcd-mul : (a b g c : ℕ) → IsGcd a b g → IsGcd (a * c) (b * c) (g * c)
IsGcd-mul a b g c h =
    let k = has_gcd (a + b) a b (omega arith) in
    let e : k.g ≡ g = same_from_IsGcd a b k.g g k.is_gcd h in
    let P : ℕ → Type 0 = λ n. IsGcd (a * c) (b * c) (n * c) in
    subst P e (k.scaled c)

-- Euclid's lemma
pub dvd_of_coprime : (d a b : ℕ) → IsGcd d a 1 → d ∣ a * b → d ∣ b
dvd_of_coprime d a b h k =
    let s : IsGcd (d * b) (a * b) (1 * b) = IsGcd-mul d a 1 b h in
    let one : 1 * b ≡ b = omega arith in
    let P : ℕ → Type 0 = λ n. d ∣ n in
    subst P one (s.2 d (dvd-mul_right d b) k)

-- one divides each number
pub one_divides : (n : ℕ) → 1 ∣ n
one_divides n = let e : 1 * n ≡ n = omega arith in subst (λ m. 1 ∣ m) e (dvd-mul_right 1 n)

-- divisors of numbers that have no common divisor have none
pub coprime-divisors : (n d a b : ℕ) → n ∣ a → d ∣ b → IsGcd a b 1 → IsGcd n d 1
coprime-divisors n d a b p q h =
    (one_divides n, one_divides d, λ e x y. h.2 e (dvd_trans e x p) (dvd_trans e y q))

-- what has no common divisor with a and none with b has none with their product
pub coprime-mul : (d a b : ℕ) → IsGcd d a 1 → IsGcd d b 1 → IsGcd d (a * b) 1
coprime-mul d a b h k = (
  h.0,
  one_divides (a * b),
  λ e in_d in_ab. k.2 e in_d
      (dvd_of_coprime e a b (coprime-divisors e a d a in_d (dvd_refl a) h) in_ab),
)
