-- Two numbers divided by their greatest common divisor.
use Rattle.std.specs.Prelude.{ℕ, ◌≡◌, ℤ, pos, ◌*ℤ◌, unsigned_abs}
use Rattle.std.specs.Int.{IsGcd}

-- p and q are x and y divided by their greatest common divisor
pub record IsLowest (x y p q : ℤ) : Type 0 where
  pub common : ℕ
  pub is_gcd : IsGcd (unsigned_abs x) (unsigned_abs y) common
  pub x-is : x ≡ pos common *ℤ p
  pub y-is : y ≡ pos common *ℤ q
