-- How a number is read: its front, and what follows.
use Rattle.std.specs.Prelude.{◌≡◌, ◌<◌, ◌≤◌, ◌+◌, ◌++◌, ◌&&◌, ℕ, Bool, true, false, List, [], ◌∷◌}
use Rattle.std.specs.Prelude.{Option, Some, None, length, count_by, if◌then◌else◌}
use Rattle.std.specs.List.{list_all, after_first}
use Rattle.std.specs.Char.{is_ascii_digit}
use Rattle.edit_rules.specs.text_rules.Amount.{is_point, is_digit_or_point, is_exponent_mark}
use Rattle.edit_rules.specs.text_rules.Amount.{has_minus}
use Rattle.edit_rules.specs.text_rules.Amount.{number_of, is_exponent}
use Rattle.text_lines.specs.declared.amount.Front.{Front}

-- whether the first byte passes
abbrev pub begins : (ℕ → Bool) → List ℕ → Bool
begins p [] = false
begins p (c ∷ cs) = p c

-- the digits at the front of a text with at most one point among them, and what is read of them;
-- they end if no digit follows, or if there are more than a number may have
pub record IsFront (text : List ℕ) (front : Front) : Type 0 where
  pub part : List ℕ
  pub cut : text ≡ part ++ front.rest.now
  pub passes : list_all is_digit_or_point part ≡ true
  pub points : count_by is_point part ≤ 1
  pub digits : count_by is_ascii_digit part ≡ front.digits
  pub number : number_of part ≡ front.number
  pub places : length (after_first is_point part) ≡ front.places
  pub digit_ends : front.digits < 31 → begins is_ascii_digit front.rest.now ≡ false
  pub point_ends : count_by is_point part ≡ 0 → begins is_point front.rest.now ≡ false
  pub few : front.places ≤ 31

-- the tens for a number with so many places and those against it, from what follows its digits
abbrev pub tens_read : ℕ → List ℕ → Option (ℕ × ℕ)
tens_read places [] = Some (6, places)
tens_read places (c ∷ cs) =
    if is_exponent_mark c && is_exponent cs then Some (
      6 + (if has_minus cs then 0 else number_of cs),
      places + (if has_minus cs then number_of cs else 0),
    )
    else None
