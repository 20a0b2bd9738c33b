-- A fraction that cannot be kept, because in lowest terms it leaves the range.
use Rattle.std.specs.Prelude.{ℤ}
use Rattle.integer_laws.specs.Range.{InRange}
use Rattle.integer_laws.specs.Lowest.{IsLowest}

-- x / y in lowest terms has a numerator or a denominator out of range
pub record IsPastLowest (x y : ℤ) : Type 0 where
  pub n : ℤ
  pub d : ℤ
  pub lowest : IsLowest x y n d
  pub past : ¬ (InRange n × InRange d)
