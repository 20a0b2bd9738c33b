-- Sizes of products and sums.
use Rattle.std.proofs.Common.{ℕ, ◌*◌, ◌+◌, ◌≤◌, ◌^◌, arith, ℤ, ◌+ℤ◌, ◌-ℤ◌, ◌*ℤ◌, SFits}
use Rattle.std.specs.Prelude.{unsigned_abs}
use Rattle.std.specs.Int.{w128}
use Rattle.std.proofs.lemmas.Int.{ints, unsigned_abs-mul, fits_signed_from_abs}
use Rattle.std.proofs.Math.Nat.{mul-le-mul}

pub size_mul : (a b : ℤ) (m n : ℕ) → unsigned_abs a ≤ m → unsigned_abs b ≤ n
    → unsigned_abs (a *ℤ b) ≤ m * n
size_mul a b m n h k = rw (unsigned_abs-mul a b) (mul-le-mul h k)

pub size_add : (a b : ℤ) (m n : ℕ) → unsigned_abs a ≤ m → unsigned_abs b ≤ n
    → unsigned_abs (a +ℤ b) ≤ m + n
size_add a b m n h k = omega (arith, ints)

pub size_sub : (a b : ℤ) (m n : ℕ) → unsigned_abs a ≤ m → unsigned_abs b ≤ n
    → unsigned_abs (a -ℤ b) ≤ m + n
size_sub a b m n h k = omega (arith, ints)

pub fits_small : (z : ℤ) → unsigned_abs z ≤ 10 ^ 38 → SFits w128 z
fits_small z h = fits_signed_from_abs w128 z (omega arith)
