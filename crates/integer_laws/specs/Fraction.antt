-- A fraction as text: the numerator alone if the denominator is 1, else both with a slash between
-- them, in decimal.
use Rattle.std.specs.Prelude.{ℕ, ℤ, pos, List, ◌∷◌, ◌++◌, if◌then◌else◌}
use Rattle.std.specs.Ordering.{int_eq}
use Rattle.std.specs.Fmt.{signed_decimal}

-- 47 is the code of the slash
abbrev pub fraction_text : ℤ → ℤ → List ℕ
fraction_text n d = if int_eq d (pos 1) then signed_decimal n else signed_decimal n ++ 47
    ∷ signed_decimal d
