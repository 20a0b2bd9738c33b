-- Numbers in range, and what an `i128` can hold of them.
use Rattle.std.proofs.Common.{◌≡◌, ◌<◌, ◌≤◌, ◌*◌, ◌^◌, arith, ℤ, ◌*ℤ◌, ◌-ℤ◌, SFits, true, false}
use Rattle.std.proofs.Common.{Some, None, refl}
use Rattle.std.specs.Int.{w128}
use Rattle.std.specs.Prelude.{unsigned_abs}
use Rattle.std.proofs.lemmas.Int.{ints, fits_signed_from_abs, unsigned_abs-mul}
use Rattle.std.proofs.Math.Nat.{mul-le-mul}
use Rattle.std.proofs.lemmas.Bool.Decides.{nat_tests}
use Rattle.integer_laws.specs.Range.{InRange}
use Rattle.integer_laws.specs.declared.which.Which.TheVariants.{Left, Right, Difference}
use Rattle.integer_laws.specs.Combined.{is_in_range, past_of}

pub fits_from_range : (z : ℤ) → InRange z → SFits w128 z
fits_from_range z h = fits_signed_from_abs w128 z h

in_range_test : (z : ℤ) → InRange z → is_in_range z ≡ true
in_range_test z h = grind (arith, nat_tests)

past_test : (z : ℤ) → ¬ (InRange z) → is_in_range z ≡ false
past_test z h = grind (arith, nat_tests)

-- ---- the first of two products and their difference that is out of range

pub past_none : (p x q y left right : ℤ) → InRange (p *ℤ x) → left ≡ p *ℤ x → InRange (q *ℤ y)
    → right ≡ q *ℤ y → InRange (left -ℤ right) → past_of p x q y ≡ None
past_none p x q y left right f l g r h =
    let h' : InRange (p *ℤ x -ℤ q *ℤ y) = rw (← l, ← r) h in
    rw (in_range_test (p *ℤ x) f, in_range_test (q *ℤ y) g, in_range_test (p *ℤ x -ℤ q *ℤ y) h')
    refl

pub past_difference : (p x q y left right : ℤ) → InRange (p *ℤ x) → left ≡ p *ℤ x → InRange (q *ℤ y)
    → right ≡ q *ℤ y → ¬ (InRange (left -ℤ right)) → past_of p x q y ≡ Some Difference
past_difference p x q y left right f l g r h =
    let h' : ¬ (InRange (p *ℤ x -ℤ q *ℤ y)) = rw (← l, ← r) h in
    rw (in_range_test (p *ℤ x) f, in_range_test (q *ℤ y) g, past_test (p *ℤ x -ℤ q *ℤ y) h') refl

pub past_left : (p x q y : ℤ) → ¬ (InRange (p *ℤ x)) → past_of p x q y ≡ Some Left
past_left p x q y h = rw (past_test (p *ℤ x) h) refl

pub past_right : (p x q y : ℤ) → InRange (p *ℤ x) → ¬ (InRange (q *ℤ y))
    → past_of p x q y ≡ Some Right
past_right p x q y h k = rw (in_range_test (p *ℤ x) h, past_test (q *ℤ y) k) refl

small_product : (a b : ℤ) → unsigned_abs a < 2 ^ 63 → unsigned_abs b < 2 ^ 63
    → unsigned_abs (a *ℤ b) ≤ 9223372036854775807 * 9223372036854775807
small_product a b h k =
    let m : unsigned_abs a ≤ 9223372036854775807 = omega arith in
    let n : unsigned_abs b ≤ 9223372036854775807 = omega arith in
    rw (unsigned_abs-mul a b) (mul-le-mul m n)

small_difference : (l r : ℤ) → unsigned_abs l ≤ 9223372036854775807 * 9223372036854775807
    → unsigned_abs r ≤ 9223372036854775807 * 9223372036854775807 → InRange (l -ℤ r)
small_difference l r h k = omega (arith, ints)

-- numbers with absolute values below 2^63 stay in range
pub past_small : (p x q y : ℤ) → unsigned_abs p < 2 ^ 63 → unsigned_abs x < 2 ^ 63
    → unsigned_abs q < 2 ^ 63 → unsigned_abs y < 2 ^ 63 → past_of p x q y ≡ None
past_small p x q y hp hx hq hy =
    let l = small_product p x hp hx in
    let r = small_product q y hq hy in
    past_none p x q y (p *ℤ x) (q *ℤ y) (omega arith) refl (omega arith) refl
    (small_difference (p *ℤ x) (q *ℤ y) l r)

-- if none is out of range, each of the three is in range
pub within_from_none : (p x q y : ℤ) → past_of p x q y ≡ None → InRange (p *ℤ x) × InRange (q *ℤ y)
    × InRange (p *ℤ x -ℤ q *ℤ y)
within_from_none p x q y e = grind (arith, nat_tests)
