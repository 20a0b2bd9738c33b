-- What is wrong with one token, given what has to be in its place, and which of the faults of a
-- line is reported: the one with the least number.
use Rattle.std.specs.Prelude.{◌==◌, ◌&&◌, ◌||◌, ℕ, Bool, not, nat_le, List, [], ◌∷◌, length, map}
use Rattle.std.specs.Prelude.{Option, Some, None, is_some, unwrap_or, Result, Ok, Err, ℤ, pos}
use Rattle.std.specs.Prelude.{int_lt, slice_index, if◌then◌else◌}
use Rattle.std.specs.List.{list_all}
use Rattle.std.specs.Str.{byte}
use Rattle.std.specs.Char.{is_ascii_digit}
use Rattle.text_rules.specs.problem_rules.Names.{is_name, is_among, has_double}
use Rattle.text_rules.specs.declared.TextKind.{TextKind}
use Rattle.text_rules.specs.declared.TextKind.TheVariants as texts
use Rattle.text_rules.specs.Amount.{number_of, amount_of}
use Rattle.text_rules.specs.Field.{kind_words}
use Rattle.edit_rules.specs.declared.EditKind.{EditKind}
use Rattle.edit_rules.specs.declared.EditKind.TheVariants.{FileType, BadLine, BadName, BadNumber}
use Rattle.edit_rules.specs.declared.EditKind.TheVariants.{TooFine, TooLarge, Sign, BadTerms}
use Rattle.edit_rules.specs.declared.EditKind.TheVariants.{UnknownName, DoubleName, BadPlace}
use Rattle.edit_rules.specs.declared.EditKind.TheVariants.{LowAboveHigh, InUse, NoProduct}
use Rattle.edit_rules.specs.declared.EditKind.TheVariants.{TooMany, BadMembers}

-- a line's number and a kind
abbrev pub Fault : Type 0
Fault = ℕ × EditKind

abbrev pub kind_number : EditKind → ℕ
kind_number FileType = 1
kind_number BadLine = 2
kind_number BadName = 3
kind_number BadNumber = 4
kind_number TooFine = 5
kind_number TooLarge = 6
kind_number Sign = 7
kind_number BadTerms = 8
kind_number UnknownName = 9
kind_number DoubleName = 10
kind_number BadPlace = 11
kind_number LowAboveHigh = 12
kind_number InUse = 13
kind_number NoProduct = 14
kind_number TooMany = 15
kind_number BadMembers = 16

-- the one of two with the lesser number, if there are two
abbrev pub lesser : Option EditKind → Option EditKind → Option EditKind
lesser None kind = kind
lesser (Some first) None = Some first
lesser (Some first) (Some second) =
    if nat_le (kind_number first) (kind_number second) then Some first else Some second

-- the one of many with the least number
abbrev pub least : List (Option EditKind) → Option EditKind
least [] = None
least (kind ∷ kinds) = lesser kind (least kinds)

-- a token without bytes makes a bad line
abbrev pub some_token : List ℕ → Option EditKind → Option EditKind
some_token [] kind = Some BadLine
some_token (c ∷ cs) kind = kind

abbrev pub unless : Bool → EditKind → Option EditKind
unless good kind = if good then None else Some kind

abbrev pub name_fault : List ℕ → Option EditKind
name_fault token = some_token token (unless (is_name token) BadName)

-- a kind word is part of a line's form
abbrev pub kind_fault : List ℕ → Option EditKind
kind_fault token = unless (is_among kind_words token) BadLine

-- amounts are written as in a problem's text
abbrev pub number_fault : TextKind → EditKind
number_fault texts.TooFine = TooFine
number_fault texts.TooLarge = TooLarge
number_fault kind = BadNumber

abbrev pub any_sign : Result ℤ TextKind → Option EditKind
any_sign (Ok z) = None
any_sign (Err kind) = Some (number_fault kind)

abbrev pub not_negative : Result ℤ TextKind → Option EditKind
not_negative (Ok z) = unless (not (int_lt z (pos 0))) Sign
not_negative (Err kind) = Some (number_fault kind)

abbrev pub positive : Result ℤ TextKind → Option EditKind
positive (Ok z) = if int_lt z (pos 0) then Some Sign else unless (int_lt (pos 0) z) BadTerms
positive (Err kind) = Some (number_fault kind)

-- a price or a proportional cost; a bound or a fixed cost; a rate
abbrev pub amount_fault : List ℕ → Option EditKind
amount_fault token = some_token token (any_sign (amount_of token))

abbrev pub bound_fault : List ℕ → Option EditKind
bound_fault token = some_token token (not_negative (amount_of token))

abbrev pub rate_fault : List ℕ → Option EditKind
rate_fault token = some_token token (positive (amount_of token))

-- digits without a leading zero, but 0 itself
abbrev pub is_whole : List ℕ → Bool
is_whole token =
    list_all is_ascii_digit token && nat_le 1 (length token) &&
    (length token == 1 || not (slice_index token 0 == byte "0"))

abbrev pub whole_within : ℕ → List ℕ → Option ℕ
whole_within limit token =
    if is_whole token && nat_le (number_of token) limit then Some (number_of token) else None

-- A place is at most 2^32 - 1. A text that is not a place counts as 0.
abbrev pub place_of : List ℕ → ℕ
place_of token = unwrap_or (whole_within 4294967295 token) 0

abbrev pub place_fault : List ℕ → Option EditKind
place_fault token = some_token token (unless (is_some (whole_within 4294967295 token)) BadNumber)

-- A payout period is at most 100 years. A text that is not one counts as 0.
abbrev pub years_of : List ℕ → ℕ
years_of token = unwrap_or (whole_within 100 token) 0

abbrev pub years_fault : List ℕ → Option EditKind
years_fault token = some_token token (unless (nat_le 1 (years_of token)) BadNumber)

-- the units of an exclusion
abbrev pub names_fault : List (List ℕ) → Option EditKind
names_fault names = least (map name_fault names)

abbrev pub members_fault : List (List ℕ) → Option EditKind
members_fault names = unless (not (has_double names)) BadMembers
