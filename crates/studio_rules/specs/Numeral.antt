-- Numbers in words: digits without a leading zero, except 0 itself.
use Rattle.std.specs.Prelude.{◌==◌, ◌&&◌, ◌-◌, ℕ, Bool, false, List, [], ◌∷◌, Option, Some, None}
use Rattle.std.specs.Prelude.{length, get_or, take, nat_le, not, if◌then◌else◌}
use Rattle.std.specs.List.{list_all}
use Rattle.std.specs.Str.{byte}
use Rattle.std.specs.Char.{is_ascii_digit}
use Rattle.report_rules.specs.text_rules.Amount.{number_of}

abbrev pub has_leading_zero : List ℕ → Bool
has_leading_zero [] = false
has_leading_zero (c ∷ cs) = c == byte "0" && not (length cs == 0)

abbrev pub is_numeral : List ℕ → Bool
is_numeral word =
    not (length word == 0) && not (has_leading_zero word) && list_all is_ascii_digit word

-- the number that the word is, if it is from the least to the most
abbrev pub number_within : ℕ → ℕ → List ℕ → Option ℕ
number_within least most word =
    if is_numeral word && nat_le least (number_of word) && nat_le (number_of word) most then Some
    (number_of word) else None

-- the last byte of a word, 0 of the empty one, and what is before it
abbrev pub last_byte : List ℕ → ℕ
last_byte word = get_or word (length word - 1) 0

abbrev pub but_last : List ℕ → List ℕ
but_last word = take (length word - 1) word
