-- The sizes of units that guide a search, in whole millionths.
use Rattle.std.specs.Prelude.{◌^◌, ℤ, pos, ◌≤ℤ◌}

abbrev pub IsSize : ℤ → Type 0
IsSize z = (pos 0 ≤ℤ z) × (z ≤ℤ pos (10 ^ 15))
