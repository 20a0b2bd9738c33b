-- The whole numbers that the arithmetic keeps: their absolute value is at most 2^127 - 1. So -2^127
-- is out of range, although an `i128` can hold it.
use Rattle.std.specs.Prelude.{◌<◌, ◌^◌, ℤ, unsigned_abs, List, All}

abbrev pub InRange : ℤ → Type 0
InRange z = unsigned_abs z < 2 ^ 127

abbrev pub AllInRange : List ℤ → Type 0
AllInRange row = All InRange row
