-- The numbers of a report: fractions in lowest terms, whose numerator and denominator have at most
-- 127 bits. A number is `None` if some number that is formed for it has more bits.
use Rattle.std.specs.Prelude.{ℕ, zero, suc, ◌+◌, ◌*◌, ◌/◌, ◌%◌, ◌^◌, ◌==◌, nat_lt, ◌&&◌, Bool, List}
use Rattle.std.specs.Prelude.{[], ◌∷◌, ◌++◌, Option, Some, None, ℤ, pos, ◌+ℤ◌, ◌*ℤ◌, unsigned_abs}
use Rattle.std.specs.Prelude.{int_lt, codes, decimal, if◌then◌else◌}
use Rattle.rank_rules.specs.text_rules.Amount.{signed}
use Rattle.report_rules.specs.Decimal.{signed_text, places_behind}

pub record Fraction : Type 0 where
  pub num : ℤ
  pub den : ℤ

abbrev pub Number : Type 0
Number = Option Fraction

-- the greatest common divisor of two numbers, by at most n steps of Euclid's algorithm
abbrev pub common : ℕ → ℕ → ℕ → ℕ
common zero a b = a
common (suc n) a b = if b == 0 then a else common n b (a % b)

-- b + 1 steps are enough
abbrev pub gcd : ℕ → ℕ → ℕ
gcd a b = common (b + 1) a b

abbrev pub lowest : ℤ → ℤ → Fraction
lowest x y = record {
  num = signed (int_lt x (pos 0)) (unsigned_abs x / gcd (unsigned_abs x) (unsigned_abs y));
  den = pos (unsigned_abs y / gcd (unsigned_abs x) (unsigned_abs y));
}

abbrev pub is_in_range : ℤ → Bool
is_in_range z = nat_lt (unsigned_abs z) (2 ^ 127)

-- the fraction of two numbers that are in range, of which the second is above 0
abbrev pub of : ℤ → ℤ → Number
of x y = Some (lowest x y)

abbrev pub nothing : Number
nothing = of (pos 0) (pos 1)

abbrev pub kept : Fraction → Number
kept f = if is_in_range f.num && is_in_range f.den then Some f else None

abbrev pub times : Number → Number → Number
times None y = None
times (Some x) None = None
times (Some x) (Some y) = kept (lowest (x.num *ℤ y.num) (x.den *ℤ y.den))

-- Both denominators divided by their greatest common divisor, from which a sum is formed. Its
-- numerator is the sum of the numerators, each times the part of the other; its denominator is one
-- part times the other's denominator. All of these have to be in range.
abbrev pub parts : Fraction → Fraction → Fraction
parts x y = lowest x.den y.den

abbrev pub are_in_range : ℤ → ℤ → ℤ → ℤ → Bool
are_in_range a b c d = is_in_range a && (is_in_range b && (is_in_range c && is_in_range d))

abbrev pub sum_in_range : Fraction → Fraction → Fraction → Bool
sum_in_range x y part =
    are_in_range (x.num *ℤ part.den) (y.num *ℤ part.num) (x.num *ℤ part.den +ℤ y.num *ℤ part.num)
    (part.num *ℤ y.den)

abbrev pub plus : Number → Number → Number
plus None y = None
plus (Some x) None = None
plus (Some x) (Some y) =
    if sum_in_range x y (parts x y) then Some
    (lowest (x.num *ℤ y.den +ℤ y.num *ℤ x.den) (x.den *ℤ y.den)) else None

-- the sum over a list, starting with n
abbrev pub sum_from : Number → (ℕ → Number) → List ℕ → Number
sum_from n f [] = n
sum_from n f (k ∷ ks) = sum_from (plus n (f k)) f ks

abbrev pub sum_of : (ℕ → Number) → List ℕ → Number
sum_of = sum_from nothing

-- a number if it is above 0, and else 0; a number if it is below 0, and else 0
abbrev pub above : Number → Number
above None = None
above (Some f) = if int_lt (pos 0) f.num then Some f else nothing

abbrev pub below : Number → Number
below None = None
below (Some f) = if int_lt f.num (pos 0) then Some f else nothing

-- ---- in decimal

-- half a number, rounded to the nearest whole number, halves away from 0, without its sign
abbrev pub half_of : Fraction → ℕ
half_of f = (unsigned_abs f.num + unsigned_abs f.den) / (2 * unsigned_abs f.den)

abbrev pub past : List ℕ
past = codes "past"

-- the text of a number, given twice its last places
abbrev pub doubled_text : ℕ → Number → List ℕ
doubled_text k None = past
doubled_text k (Some f) = signed_text k (int_lt f.num (pos 0)) (half_of f)

-- with at most k places, and `past` if there is no number
abbrev pub number_with : ℕ → Number → List ℕ
number_with k n = doubled_text k (times n (of (pos (2 * 10 ^ k)) (pos 1)))

-- six places, less one for each digit of the whole part
abbrev pub places_of : Fraction → ℕ
places_of f = places_behind 6 (unsigned_abs f.num / unsigned_abs f.den)

-- with six digits if it has more
abbrev pub number_text : Number → List ℕ
number_text None = past
number_text (Some f) = number_with (places_of f) (Some f)

-- a share in per cent with one place, at least 0, given twice its thousandths
abbrev pub thousandths_text : Number → List ℕ
thousandths_text None = past
thousandths_text (Some f) = decimal (half_of f / 10) ++ 46 ∷ (48 + half_of f % 10) ∷ []

abbrev pub share_text : Number → List ℕ
share_text n = thousandths_text (times n (of (pos 2000) (pos 1)))
