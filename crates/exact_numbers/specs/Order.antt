-- The order of fractions: a / b compares to c / d as a * d to c * b, since the denominators b and d
-- are above 0.
use Rattle.std.specs.Prelude.{◌*ℤ◌}
use Rattle.std.specs.Ordering.{int_cmp}
use Rattle.std.specs.declared.cmp.Ordering.{Ordering}
use Rattle.exact_numbers.specs.declared.fraction.Frac.{Frac}

abbrev pub fraction_cmp : Frac → Frac → Ordering
fraction_cmp x y = int_cmp (x.num *ℤ y.den) (y.num *ℤ x.den)
