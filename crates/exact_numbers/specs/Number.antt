-- A mixed number as a fraction: its denominator is that of the part below 1.
use Rattle.std.specs.Prelude.{ℤ, pos, ◌+ℤ◌, ◌*ℤ◌}
use Rattle.exact_numbers.specs.declared.number.Mixed.{Mixed}

abbrev pub denominator : Mixed → ℤ
denominator m = pos m.den

abbrev pub numerator : Mixed → ℤ
numerator m = m.whole *ℤ pos m.den +ℤ pos m.rest
