-- Sums of whole numbers and fractions over one denominator.
use Rattle.std.proofs.Common.{◌≡◌, ℕ, ◌≤◌, ◌+◌, ◌-◌, ◌*◌, ◌/◌, ◌%◌, ap, ◌∙◌, arith}

pub added : (a b r s w den : ℕ) → w ≡ a + b → w * den + (r + s) ≡ a * den + r + (b * den + s)
added a b r s w den e = ap (λ (n : ℕ). n * den + (r + s)) e ∙ omega arith

pub carried : (a b r s w m den : ℕ) → den ≤ r + s → w ≡ a + b → m ≡ w + 1
    → m * den + (r + s - den) ≡ a * den + r + (b * den + s)
carried a b r s w m den l e f =
    ap (λ (n : ℕ). n * den + (r + s - den)) (f ∙ ap (λ (n : ℕ). n + 1) e) ∙ omega (arith, l)

halves : (n : ℕ) → n ≡ 2 * (n / 2) + n % 2
halves n = omega arith

-- a digit 0: the power doubles
pub even : (left sum power twice all : ℕ) → left % 2 ≡ 0 → twice ≡ power + power
    → sum + left * power ≡ all → sum + (left / 2) * twice ≡ all
even left sum power twice all d t h =
    let e : left ≡ 2 * (left / 2) = omega arith in
    let f : left * power ≡ (2 * (left / 2)) * power = ap (λ (n : ℕ). n * power) e in
    ap (λ (n : ℕ). sum + (left / 2) * n) t ∙ omega (arith, f, h)

-- a digit 1: the power is added, and doubles
pub odd : (left sum new power twice all : ℕ) → left % 2 ≡ 1 → new ≡ sum + power
    → twice ≡ power + power → sum + left * power ≡ all → new + (left / 2) * twice ≡ all
odd left sum new power twice all d n t h =
    let e : left ≡ 2 * (left / 2) + 1 = omega arith in
    let f : left * power ≡ (2 * (left / 2) + 1) * power = ap (λ (n : ℕ). n * power) e in
    ap (λ (m : ℕ). m + (left / 2) * twice) n
    ∙ (ap (λ (m : ℕ). sum + power + (left / 2) * m) t ∙ omega (arith, f, h))
