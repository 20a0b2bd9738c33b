-- The digits of a fraction by long division.
use Rattle.std.proofs.Common.{◌≡◌, ◌<◌, ◌≤◌, ◌+◌, ◌*◌, ◌-◌, ◌/◌, ◌%◌, ◌^◌, ℕ, zero, suc, true}
use Rattle.std.proofs.Common.{false, refl, sym, ap, ◌∙◌, subst, add-one, arith}
use Rattle.std.specs.Prelude.{nat_lt}
use Rattle.std.proofs.lemmas.Bool.{lt-ltb, le-ltb}
use Rattle.std.proofs.Math.Nat.{div-eq_of_lt-le, div-eq_of_lt, pow-suc, one-le-pow}
use Rattle.std.proofs.Math.Nat.{pow-le-pow_right, le-mul_of_pos_right, mul-le-mul_right}
use Rattle.report_rules.specs.Value.{places_from}

-- ---- rounding

pub near_up : (n r d : ℕ) → 0 < d → r < d → d - r ≤ r → n + 1 ≡ (2 * (n * d + r) + d) / (2 * d)
near_up n r d p s h =
    let low : (n + 1) * (2 * d) ≤ 2 * (n * d + r) + d = omega (arith, s, h) in
    let high : 2 * (n * d + r) + d < (n + 1 + 1) * (2 * d) = omega (arith, s, p) in
    sym (div-eq_of_lt-le (2 * d) low high)

pub near_down : (n r d : ℕ) → 0 < d → r < d - r → n ≡ (2 * (n * d + r) + d) / (2 * d)
near_down n r d p h =
    let low : n * (2 * d) ≤ 2 * (n * d + r) + d = omega arith in
    let high : 2 * (n * d + r) + d < (n + 1) * (2 * d) = omega (arith, h) in
    sym (div-eq_of_lt-le (2 * d) low high)

-- ---- a digit more

pub ten_times : (r d t2 r2 t4 r4 t5 r5 t10 r10 : ℕ) → r + r ≡ t2 * d + r2 → r2 + r2 ≡ t4 * d + r4
    → r4 + r ≡ t5 * d + r5 → r5 + r5 ≡ t10 * d + r10
    → 10 * r ≡ (4 * t2 + 2 * t4 + 2 * t5 + t10) * d + r10
ten_times r d t2 r2 t4 r4 t5 r5 t10 r10 e2 e4 e5 e10 = omega (arith, e2, e4, e5, e10)

pub digit_more : (num p n r t s d : ℕ) → num * 10 ^ p ≡ n * d + r → 10 * r ≡ t * d + s
    → num * 10 ^ (p + 1) ≡ (10 * n + t) * d + s
digit_more num p n r t s d e f = ap (λ (q : ℕ). num * 10 ^ q) (add-one p)
    ∙ ap (λ (x : ℕ). num * x) (pow-suc 10 p) ∙ at (10 ^ p) e
  where
    at : (x : ℕ) → num * x ≡ n * d + r → num * (x * 10) ≡ (10 * n + t) * d + s
    at x e = omega (arith, e, f)

-- ---- places

below : (x n r d : ℕ) → x ≡ n * d + r → r < d → n < 10 ^ 16 → x < 10 ^ 16 * d
below x n r d e s h =
    let l : (n + 1) * d ≤ 10 ^ 16 * d = mul-le-mul_right d (omega (arith, h)) in
    omega (arith, e, s, l)

pub place_more : (j p num n r d : ℕ) → num * 10 ^ p ≡ n * d + r → r < d → n < 10 ^ 16
    → places_from (suc j) p num d ≡ places_from j (p + 1) num d
place_more j p num n r d e s h =
    rw (lt-ltb (num * 10 ^ p) (10 ^ 16 * d) (below (num * 10 ^ p) n r d e s h)) refl

above : (x n r d : ℕ) → x ≡ n * d + r → 10 ^ 16 ≤ n → 10 ^ 16 * d ≤ x
above x n r d e h =
    let l : 10 ^ 16 * d ≤ n * d = mul-le-mul_right d h in
    omega (arith, e, l)

pub place_last : (j p num n r d : ℕ) → num * 10 ^ p ≡ n * d + r → 10 ^ 16 ≤ n
    → places_from j p num d ≡ p
place_last zero p num n r d e h = refl
place_last (suc j) p num n r d e h =
    rw (le-ltb (num * 10 ^ p) (10 ^ 16 * d) (above (num * 10 ^ p) n r d e h)) refl

pub place_end : (p num d : ℕ) → p ≡ 55 → places_from (55 - p) p num d ≡ 55
place_end p num d e = rw e refl

-- ---- over a power of ten

pub many_places : (n p : ℕ) → n < 2 ^ 128 → 38 < p → n < 10 ^ p
many_places n p h l =
    let more : 39 ≤ p = omega (arith, l) in
    let m : 10 ^ 39 ≤ 10 ^ p = pow-le-pow_right (omega arith) more in
    omega (arith, h, m)

pub few_places : (p : ℕ) → p ≤ 38 → 10 ^ p < 2 ^ 128
few_places p l =
    let m : 10 ^ p ≤ 10 ^ 38 = pow-le-pow_right (omega arith) l in
    omega (arith, m)

pub power_positive : (p : ℕ) → 0 < 10 ^ p
power_positive p = let l : 1 ≤ 10 ^ p = one-le-pow p 10 (omega arith) in l
