-- Numbers, in millionths: an optional sign, digits with at most one point, then optionally `e` or
-- `E`, an optional sign and one to three digits. The value has to be a whole number of millionths
-- of at most 10^15, whatever its sign.
use Rattle.std.specs.Prelude.{◌==◌, ◌&&◌, ◌||◌, ◌+◌, ◌-◌, ◌*◌, ◌/◌, ◌%◌, ◌^◌, ℕ, Bool, false, List}
use Rattle.std.specs.Prelude.{[], ◌∷◌, Result, Ok, Err, ℤ, pos, neg_ℤ, length, nat_le, nat_lt, not}
use Rattle.std.specs.Prelude.{count_by, if◌then◌else◌}
use Rattle.std.specs.List.{list_all, list_any, before_first, after_first}
use Rattle.std.specs.Str.{byte}
use Rattle.std.specs.Char.{is_ascii_digit}
use Rattle.text_rules.specs.declared.TextKind.{TextKind}
use Rattle.text_rules.specs.declared.TextKind.TheVariants.{BadNumber, TooFine, TooLarge}

abbrev pub is_point : ℕ → Bool
is_point c = c == byte "."

abbrev pub is_digit_or_point : ℕ → Bool
is_digit_or_point c = is_ascii_digit c || is_point c

abbrev pub is_sign : ℕ → Bool
is_sign c = c == byte "+" || c == byte "-"

abbrev pub is_exponent_mark : ℕ → Bool
is_exponent_mark c = c == byte "e" || c == byte "E"

abbrev pub has_minus : List ℕ → Bool
has_minus [] = false
has_minus (c ∷ cs) = c == byte "-"

abbrev pub without_sign : List ℕ → List ℕ
without_sign [] = []
without_sign (c ∷ cs) = if is_sign c then cs else c ∷ cs

-- the number that the digits of the text spell after those of n; other bytes do not count
abbrev pub number_from : ℕ → List ℕ → ℕ
number_from n [] = n
number_from n (c ∷ cs) = number_from (if is_ascii_digit c then 10 * n + (c - 48) else n) cs

abbrev pub number_of : List ℕ → ℕ
number_of = number_from 0

-- the text before the exponent's mark, and the text after it
abbrev pub mantissa : List ℕ → List ℕ
mantissa text = before_first is_exponent_mark (without_sign text)

abbrev pub exponent : List ℕ → List ℕ
exponent text = after_first is_exponent_mark (without_sign text)

-- Digits with at most one point, one to thirty digits. Leading and trailing zeros count, the digits
-- of the exponent do not; the point may be first or last.
abbrev pub is_mantissa : List ℕ → Bool
is_mantissa text = list_all is_digit_or_point text && nat_le (count_by is_point text) 1
    && nat_le 1 (count_by is_ascii_digit text) && nat_le (count_by is_ascii_digit text) 30

-- a sign or none, and one to three digits
abbrev pub is_exponent : List ℕ → Bool
is_exponent text =
    list_all is_ascii_digit (without_sign text) && nat_le 1 (length (without_sign text)) && nat_le
    (length (without_sign text)) 3

abbrev pub is_number : List ℕ → Bool
is_number text =
    is_mantissa (mantissa text) &&
    (not (list_any is_exponent_mark (without_sign text)) || is_exponent (exponent text))

-- The number that the digits of the mantissa spell is multiplied by ten as often as `tens_for`
-- says, and divided by ten as often as `tens_against` says. There are six tens for the millionths,
-- the exponent counts up or down, and the places after the point count down.
abbrev pub tens_for : List ℕ → ℕ
tens_for text = 6 + (if has_minus (exponent text) then 0 else number_of (exponent text))

abbrev pub tens_against : List ℕ → ℕ
tens_against text = length (after_first is_point (mantissa text))
    + (if has_minus (exponent text) then number_of (exponent text) else 0)

abbrev pub amount_limit : ℕ
amount_limit = 10 ^ 15

-- a number of millionths with its sign
abbrev pub signed : Bool → ℕ → ℤ
signed minus n = if minus then neg_ℤ (pos n) else pos n

-- The number times ten to the power `up`, divided by ten to the power `down`, which has to be whole
-- and within the limit. A number that is not whole is too fine, however large it is; 0 is 0
-- whatever its exponent.
abbrev pub scaled_by : ℕ → ℕ → ℕ → Result ℕ TextKind
scaled_by number up down =
    if not (number * 10 ^ up % 10 ^ down == 0) then Err TooFine
    else if nat_lt amount_limit (number * 10 ^ up / 10 ^ down) then Err TooLarge
    else Ok (number * 10 ^ up / 10 ^ down)

-- Of the tens for and against only the difference counts, so one of the two powers is 1.
abbrev pub scaled : ℕ → ℕ → ℕ → Result ℕ TextKind
scaled number for against = scaled_by number (for - against) (against - for)

abbrev pub with_sign : Bool → Result ℕ TextKind → Result ℤ TextKind
with_sign minus (Ok n) = Ok (signed minus n)
with_sign minus (Err kind) = Err kind

-- The number of millionths that the text stands for, or what is wrong with it. Only a text of this
-- form is a number: it has no blanks and no other sign.
abbrev pub amount_of : List ℕ → Result ℤ TextKind
amount_of text =
    if is_number text then with_sign (has_minus text)
    (scaled (number_of (mantissa text)) (tens_for text) (tens_against text)) else Err BadNumber
