-- The test whether a number is 0.
use Rattle.std.proofs.Common.{◌≡◌, refl, arith, pos, ℤ, true, false}
use Rattle.std.specs.Ordering.{int_eq}
use Rattle.std.proofs.lemmas.Int.{ints}

pub int_eq_zero : (r : ℤ) → r ≡ pos 0 → int_eq r (pos 0) ≡ true
int_eq_zero r e = rw e refl

pub int_eq_other : (r : ℤ) → ¬ (r ≡ pos 0) → int_eq r (pos 0) ≡ false
int_eq_other r n = grind (arith, ints)

pub zero_from : (r : ℤ) → int_eq r (pos 0) ≡ true → r ≡ pos 0
zero_from r e = grind (arith, ints)
