-- The rank of a list of fractions is below a power.
use Rattle.std.proofs.Common.{◌≡◌, ℕ, zero, suc, ◌+◌, ◌*◌, ◌/◌, ◌<◌, ◌≤◌, arith, refl, ap, sym, ◌∙◌}
use Rattle.std.specs.Prelude.{ℤ, pos, negsuc, ◌+ℤ◌, ◌*ℤ◌, ◌<ℤ◌, ◌≤ℤ◌, unsigned_abs}
use Rattle.std.proofs.lemmas.Int.{ints}
use Rattle.std.proofs.Math.Nat.{div-le_of_le-mul, mul-le-mul}
use Rattle.flow_program.proofs.integer_laws.Cited.{V, ◌⊕◌, ◌⊗◌, read_equal, read_le}
use Rattle.flow_program.specs.flow_rules.Rank.{digit, power, rank, IsWithin}
use Rattle.path_laws.proofs.Cited.{number_below}

abs_of : (z : ℤ) → pos 0 ≤ℤ z → pos (unsigned_abs z) ≡ z
abs_of (pos n) h = refl
abs_of (negsuc n) h = absurd (omega (arith, ints))

abs_pos : (z : ℤ) → pos 0 <ℤ z → 0 < unsigned_abs z
abs_pos (pos n) h = omega (arith, ints)
abs_pos (negsuc n) h = absurd (omega (arith, ints))

at_least : (m : ℕ) (t d : ℤ) → pos 0 <ℤ d → pos 0 ≤ℤ (t +ℤ pos m) → pos 0 ≤ℤ (t +ℤ pos m *ℤ d)
at_least m t (pos zero) p h = absurd (omega (arith, ints))
at_least m t (negsuc n) p h = absurd (omega (arith, ints))
at_least m t (pos (suc n)) p h = omega (arith, ints)

at_most : (m a b : ℕ) (t : ℤ) → 0 < b → t ≤ℤ pos m → t +ℤ pos m *ℤ pos b ≡ pos a → a ≤ b * (2 * m)
at_most m a b t p h e =
    let y = read_equal (V t ⊕ V (pos m) ⊗ V (pos b)) (V (pos a)) e in
    let z = read_le (V t) (V (pos m)) h in
    let w : m * 1 ≤ m * b = mul-le-mul (omega arith) (omega arith) in
    omega arith

digit_most : (m a b : ℕ) → a ≤ b * (2 * m) → digit m a b < 2 * m * (m * m) + 1
digit_most m a b h =
    let x : a * (m * m) ≤ (b * (2 * m)) * (m * m) = mul-le-mul h (omega arith) in
    let y : a * (m * m) / b ≤ 2 * m * (m * m) = div-le_of_le-mul b (omega (arith, x)) in
    omega arith

is_lifted : (m : ℕ) (t d : ℤ) → pos 0 <ℤ d → pos 0 ≤ℤ (t +ℤ pos m)
    → t +ℤ pos m *ℤ pos (unsigned_abs d) ≡ pos (unsigned_abs (t +ℤ pos m *ℤ d))
is_lifted m t d p h =
    let e = abs_of d (omega (arith, ints)) in
    ap (λ x. t +ℤ pos m *ℤ x) e ∙ sym (abs_of (t +ℤ pos m *ℤ d) (at_least m t d p h))

pub rank_below : (m n : ℕ) (top bottom : ℕ → ℤ) → IsWithin m n top bottom
    → rank m n top bottom < power (2 * m * (m * m) + 1) n
rank_below m n t d w =
    number_below (2 * m * (m * m) + 1) n
    (λ q. digit m (unsigned_abs (t q +ℤ pos m *ℤ d q)) (unsigned_abs (d q)))
    (λ q h. digit_most m (unsigned_abs (t q +ℤ pos m *ℤ d q)) (unsigned_abs (d q))
    (at_most m (unsigned_abs (t q +ℤ pos m *ℤ d q)) (unsigned_abs (d q)) (t q)
    (abs_pos (d q) (w.positive q h)) (w.top_most q h)
    (is_lifted m (t q) (d q) (w.positive q h) (w.top_least q h))))
