-- The numbers that are formed for the sum of two fractions a / b and c / d. With g the greatest
-- common divisor of b and d they are a * (d / g), c * (b / g), their sum, and the denominator (b /
-- g) * d.
use Rattle.std.specs.Prelude.{ℤ, ◌+ℤ◌, ◌*ℤ◌}
use Rattle.integer_laws.specs.Range.{InRange}
use Rattle.integer_laws.specs.Lowest.{IsLowest}

-- all of them are in range; `b_part` and `d_part` are b and d divided by g
abbrev pub IsSumInRange : ℤ → ℤ → ℤ → ℤ → ℤ → Type 0
IsSumInRange a c d b_part d_part = InRange (a *ℤ d_part) × InRange (c *ℤ b_part)
    × InRange (a *ℤ d_part +ℤ c *ℤ b_part) × InRange (b_part *ℤ d)

-- one of them is out of range
pub record IsPastSum (a b c d : ℤ) : Type 0 where
  pub b_part : ℤ
  pub d_part : ℤ
  pub lowest : IsLowest b d b_part d_part
  pub past : ¬ IsSumInRange a c d b_part d_part
