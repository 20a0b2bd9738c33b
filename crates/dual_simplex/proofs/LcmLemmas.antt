-- The least common multiple of two numbers above 0: one of them times what is left of the other.
use Rattle.std.proofs.Common.{◌≡◌, ℕ, ◌*◌, ◌<◌, ◌^◌, ℤ, pos, ◌*ℤ◌, ◌<ℤ◌, sym, ap, ◌∙◌, subst, arith}
use Rattle.std.proofs.Common.{◌/◌}
use Rattle.std.specs.Prelude.{unsigned_abs, Option, Some, None, IfSome, IfNone}
use Rattle.std.specs.Option.{SomeIff}
use Rattle.flow_program.proofs.integer_laws.Cited.{mul_pos, dvd_of_coprime}
use Rattle.std.specs.Int.{IsGcd, ◌∣◌}
use Rattle.std.proofs.lemmas.Int.{ints, unsigned_abs-mul}
use Rattle.std.proofs.lemmas.Nat.Gcd.{IsGcd-swap, dvd_antisymm}
use Rattle.std.proofs.Math.Nat.{dvd-mul_right, div-mul_cancel, mul-dvd-mul_left}
use Rattle.std.proofs.Math.Nat.{dvd_of_mul-dvd-mul_left}
use Rattle.flow_program.specs.integer_laws.Lowest.{IsLowest}
use Rattle.flow_program.specs.integer_laws.Range.{InRange}
use Rattle.flow_program.proofs.exact_numbers.Cited.{lowest_coprime, common_positive}
use Rattle.flow_program.specs.flow_rules.ReadFlows.{IsLcm}

-- g * p and g * q with p and q coprime have the least common multiple g * p * q
lcm_parts : (g p q : ℕ) → 0 < g → IsGcd p q 1 → IsLcm (g * p) (g * q) (g * p * q)
lcm_parts g p q h c = record {
  left = dvd-mul_right (g * p) q;
  right = subst (λ n. g * q ∣ n) (omega arith) (dvd-mul_right (g * q) p);
  least = λ m a b.
      let k = m / (g * p) in
      let whole : k * (g * p) ≡ m = div-mul_cancel (g * p) a in
      let whole' : g * (p * k) ≡ m = omega arith in
      let over : g * q ∣ g * (p * k) = subst (λ n. g * q ∣ n) (sym whole') b in
      let less : q ∣ p * k = dvd_of_mul-dvd-mul_left q h over in
      let in_k : q ∣ k = dvd_of_coprime q p k (IsGcd-swap p q 1 c) less in
      let last : g * p * q ∣ g * p * k = mul-dvd-mul_left q (g * p) in_k in
      subst (λ n. g * p * q ∣ n) (omega arith) last;
}

pub lcm_is : (a b p q : ℤ) → pos 0 <ℤ b → IsLowest a b p q
    → IsLcm (unsigned_abs a) (unsigned_abs b) (unsigned_abs (a *ℤ q))
lcm_is a b p q h l =
    let g = l.common in
    let ga : unsigned_abs a ≡ g * unsigned_abs p =
    ap unsigned_abs l.x-is ∙ unsigned_abs-mul (pos g) p in
    let gb : unsigned_abs b ≡ g * unsigned_abs q =
    ap unsigned_abs l.y-is ∙ unsigned_abs-mul (pos g) q in
    let m : unsigned_abs (a *ℤ q) ≡ g * unsigned_abs p * unsigned_abs q =
    unsigned_abs-mul a q ∙ ap (λ n. n * unsigned_abs q) ga in
    let k : pos 0 <ℤ pos g = common_positive h l in
    let parts =
    lcm_parts g (unsigned_abs p) (unsigned_abs q) (omega (arith, ints)) (lowest_coprime h l) in
    subst (λ n. IsLcm n (unsigned_abs b) (unsigned_abs (a *ℤ q))) (sym ga)
    (subst (λ n. IsLcm (g * unsigned_abs p) n (unsigned_abs (a *ℤ q))) (sym gb)
    (subst (λ n. IsLcm (g * unsigned_abs p) (g * unsigned_abs q) n) (sym m) parts))

pub lcm_same : (a b m n : ℕ) → IsLcm a b m → IsLcm a b n → m ≡ n
lcm_same a b m n h k = dvd_antisymm (h.least n k.left k.right) (k.least m h.left h.right)

-- if one least common multiple is out of range, each is
pub lcm_past : (a b : ℕ) (m n : ℤ) → IsLcm a b (unsigned_abs m) → IsLcm a b (unsigned_abs n)
    → ¬ InRange m → ¬ InRange n
lcm_past a b m n h k past range =
    past (subst (λ x. x < 2 ^ 127) (lcm_same a b (unsigned_abs n) (unsigned_abs m) k h) range)

-- what is found if the product is in range
pub lcm_found : (a b p q : ℤ) (r : Option ℤ) → pos 0 <ℤ b → IsLowest a b p q
    → SomeIff r (InRange (a *ℤ q)) (a *ℤ q)
    → IfSome r (λ m. IsLcm (unsigned_abs a) (unsigned_abs b) (unsigned_abs m))
lcm_found a b p q None h l s = tt
lcm_found a b p q (Some m) h l s =
    subst (λ (z : ℤ). IsLcm (unsigned_abs a) (unsigned_abs b) (unsigned_abs z)) (sym s.1)
    (lcm_is a b p q h l)

pub found_positive : (a q : ℤ) (r : Option ℤ) → pos 0 <ℤ a → pos 0 <ℤ q
    → SomeIff r (InRange (a *ℤ q)) (a *ℤ q) → IfSome r (λ m. pos 0 <ℤ m)
found_positive a q None h k s = tt
found_positive a q (Some m) h k s = subst (λ (z : ℤ). pos 0 <ℤ z) (sym s.1) (mul_pos a q h k)

pub lcm_missed : (a b p q : ℤ) (r : Option ℤ) → pos 0 <ℤ b → IsLowest a b p q
    → SomeIff r (InRange (a *ℤ q)) (a *ℤ q)
    → IfNone r ((m : ℤ) → IsLcm (unsigned_abs a) (unsigned_abs b) (unsigned_abs m) → ¬ InRange m)
lcm_missed a b p q None h l s =
    λ m k. lcm_past (unsigned_abs a) (unsigned_abs b) (a *ℤ q) m (lcm_is a b p q h l) k s
lcm_missed a b p q (Some m) h l s = tt
