-- The order of mixed numbers is that of their fractions: a / b compares to c / d as a * d to c * b,
-- since denominators are above 0.
use Rattle.std.specs.Prelude.{◌*ℤ◌}
use Rattle.std.specs.Ordering.{int_cmp}
use Rattle.std.specs.declared.cmp.Ordering.{Ordering}
use Rattle.exact_numbers.specs.declared.number.Mixed.{Mixed}
use Rattle.exact_numbers.specs.Number.{numerator, denominator}

abbrev pub mixed_cmp : Mixed → Mixed → Ordering
mixed_cmp x y = int_cmp (numerator x *ℤ denominator y) (numerator y *ℤ denominator x)
