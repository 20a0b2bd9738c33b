-- Values that are read are within the limit, and not below 0 if their keys do not allow it: those
-- of items, and of defaults.
use Rattle.std.proofs.Common.{◌≡◌, ◌≤◌, ◌*◌, ◌/◌, ◌%◌, ◌^◌, ◌-◌, ◌&&◌, ◌==◌, Bool, true, false, not}
use Rattle.std.proofs.Common.{nat_lt, ℕ, zero, suc, List, [], ◌∷◌, filter, bytes_eq, find, Option}
use Rattle.std.proofs.Common.{Some, None, IfSome, option_map, Result, Ok, Err, ℤ, pos, int_lt, refl}
use Rattle.std.proofs.Common.{◌∙◌, ap, if◌then◌else◌, leb-true, ltb-false, unsigned_abs}
use Rattle.std.specs.List.{list_any}
use Rattle.std.specs.Result.{result_unwrap_or}
use Rattle.std.proofs.lemmas.Bool.{cond_both, true≢false}
use Rattle.std.proofs.lemmas.Slice.Eq.{bytes_eq-Decides}
use Rattle.text_rules.specs.problem_rules.Each.{Each}
use Rattle.text_rules.specs.problem_rules.WellFormed.{IsInRange, IsBound}
use Rattle.text_rules.specs.declared.TextKind.{TextKind}
use Rattle.text_rules.specs.declared.TextKind.TheVariants.{BadNumber, TooFine, TooLarge, Negative}
use Rattle.text_rules.specs.declared.Section.TheVariants.{Defaults}
use Rattle.text_rules.specs.Amount.{amount_limit, signed, scaled, with_sign, is_number, has_minus}
use Rattle.text_rules.specs.Amount.{number_of, mantissa, tens_for, tens_against}
use Rattle.text_rules.specs.Line.{Placed, lines_at}
use Rattle.text_rules.specs.Field.{keyed, is_keyed, key_of, value_of, material_type, payout_period}
use Rattle.text_rules.specs.Fault.{millionths, may_be_negative, field_key, item_stands, is_payout}
use Rattle.text_rules.specs.Value.{value_at, number_or, number_at, item_fields, default_fields}
use Rattle.text_rules.specs.Value.{much}
use Rattle.text_laws.proofs.Each.{each-to, each-map, none_each}
use Rattle.text_laws.proofs.NoKind.{NoDefaultFault, each_filter}

-- every number that is read is within the limit
signed_range : (minus : Bool) (q : ℕ) → q ≤ amount_limit
    → unsigned_abs (signed minus q) ≤ amount_limit
signed_range true zero le = le
signed_range true (suc q) le = le
signed_range false q le = le

pub range_of : (text : List ℕ) → unsigned_abs (millionths text) ≤ amount_limit
range_of text =
    let Fine : Result ℤ TextKind → Type 0 =
    λ r. unsigned_abs (result_unwrap_or r (pos 0)) ≤ amount_limit in
    let none : 0 ≤ amount_limit = leb-true 0 amount_limit refl in
    let q : ℕ = number_of (mantissa text)
    * 10 ^ (tens_for text - tens_against text) / 10 ^ (tens_against text - tens_for text) in
    cond_both (is_number text)
    (with_sign (has_minus text)
    (scaled (number_of (mantissa text)) (tens_for text) (tens_against text))) (Err BadNumber)
    Fine
    (λ e. cond_both
    (not
    (number_of (mantissa text)
    * 10 ^ (tens_for text - tens_against text) % 10 ^ (tens_against text - tens_for text) == 0))
    (Err TooFine) (if nat_lt amount_limit q then Err TooLarge else Ok q)
    (λ r. Fine (with_sign (has_minus text) r))
    (λ e. none)
    (λ e. cond_both (nat_lt amount_limit q) (Err TooLarge) (Ok q)
    (λ r. Fine (with_sign (has_minus text) r)) (λ e. none)
    (λ small. signed_range (has_minus text) q (ltb-false amount_limit q small))))
    (λ e. none)

-- what is true of each value of a key is true of the one that counts
value_is : (Q : List ℕ → Type 0) (key : List ℕ) (fields : List (List ℕ × List ℕ))
    → Each (λ field. bytes_eq (field.0) key ≡ true → Q (field.1)) fields
    → IfSome (value_at key fields) Q
value_is Q key [] each = tt
value_is Q key (field ∷ fields) each =
    at (bytes_eq (field.0) key) each.0 (value_is Q key fields each.1) where
      at : (b : Bool) → (b ≡ true → Q (field.1)) → IfSome (value_at key fields) Q
          → IfSome
          (option_map (λ (other : List ℕ × List ℕ). other.1)
          (if b then Some field else find (λ other. bytes_eq (other.0) key) fields)) Q
      at true here rest = here refl
      at false here rest = rest

-- a number that is not below 0, and a field whose number is not below 0 if its key does not allow
-- it
abbrev NotBelow : List ℕ → Type 0
NotBelow text = int_lt (millionths text) (pos 0) ≡ false

abbrev pub IsAllowed : List ℕ × List ℕ → Type 0
IsAllowed field = bytes_eq (field.0) material_type ≡ false → may_be_negative (field.0) ≡ false
    → NotBelow (field.1)

not_below : (keyed typed may below : Bool) → ((keyed && not typed) && (below && not may)) ≡ false
    → keyed ≡ true → typed ≡ false → may ≡ false → below ≡ false
not_below true false false true e one two three = absurd (true≢false e)
not_below true false false false e one two three = refl
not_below keyed typed may below e one two three = cc

pub items_allowed : (items : List (List ℕ)) → list_any (item_stands Negative) items ≡ false
    → Each IsAllowed (item_fields items)
items_allowed items none =
    each-map IsAllowed keyed (filter is_keyed items)
    (each-to (λ item. (is_keyed item ≡ true) × (item_stands Negative item ≡ false))
    (λ item. IsAllowed (keyed item))
    (λ item is number may. not_below (is_keyed item) (bytes_eq (field_key item) material_type)
    (may_be_negative (field_key item)) _ is.1 is.0 number may)
    (filter is_keyed items)
    (each_filter (λ item. item_stands Negative item ≡ false) is_keyed items
    (none_each (item_stands Negative) items none)))

-- ---- defaults

abbrev field_of : Placed → List ℕ × List ℕ
field_of line = (key_of line.text, value_of line.text)

pub defaults_allowed : (lines : List Placed)
    → Each (λ line. NoDefaultFault line.text) (lines_at Defaults lines)
    → Each IsAllowed (default_fields lines)
defaults_allowed lines each =
    each-map IsAllowed field_of (lines_at Defaults lines)
    (each-to (λ line. NoDefaultFault line.text) (λ line. IsAllowed (field_of line))
    (λ line is number may. not_below true (bytes_eq (key_of line.text) material_type)
    (may_be_negative (key_of line.text)) _ is.value refl number may) (lines_at Defaults lines)
    each)

-- the payout period, which is one year if none is given
abbrev IsYears : List ℕ → Type 0
IsYears text = is_payout (millionths text) ≡ true

pub payout_good : (lines : List Placed)
    → Each (λ line. NoDefaultFault line.text) (lines_at Defaults lines)
    → is_payout (number_at payout_period (default_fields lines) (pos 1000000)) ≡ true
payout_good lines each =
    given (value_at payout_period (default_fields lines))
    (value_is IsYears payout_period (default_fields lines)
    (each-map (λ field. bytes_eq (field.0) payout_period ≡ true → IsYears (field.1)) field_of
    (lines_at Defaults lines)
    (each-to (λ line. NoDefaultFault line.text) _ (λ line is same. years _ _ is.payout same)
    (lines_at Defaults lines) each))) where
      given : (value : Option (List ℕ)) → IfSome value IsYears
          → is_payout (number_or value (pos 1000000)) ≡ true
      given None is = refl
      given (Some text) is = is

      years : (same good : Bool) → (same && not good) ≡ false → same ≡ true → good ≡ true
      years true true e is = refl
      years same good e is = cc

-- ---- numbers of keys

-- a key whose numbers may not be below 0
abbrev IsBounding : List ℕ → Type 0
IsBounding key = (bytes_eq key material_type ≡ false) × (may_be_negative key ≡ false)

value_allowed : (key : List ℕ) (fields : List (List ℕ × List ℕ)) → IsBounding key
    → Each IsAllowed fields → IfSome (value_at key fields) NotBelow
value_allowed key fields is each =
    value_is NotBelow key fields (each-to IsAllowed _ (λ field allowed same.
    let e : field.0 ≡ key = (bytes_eq-Decides (field.0) key).0 same in
    allowed (ap (λ (k : List ℕ). bytes_eq k material_type) e ∙ is.0) (ap may_be_negative e ∙ is.1))
    fields each)

number_bound : (value : Option (List ℕ)) (default : ℤ) → IfSome value NotBelow → IsBound default
    → IsBound (number_or value default)
number_bound None default above is = is
number_bound (Some text) default above is =
    record { in_range = range_of text; not_negative = above }

number_range : (value : Option (List ℕ)) (default : ℤ) → IsInRange default
    → IsInRange (number_or value default)
number_range None default is = is
number_range (Some text) default is = range_of text

-- the number of an item, or of a default
module _ (defaults fields : List (List ℕ × List ℕ)) (key default_key : List ℕ) (built_in : ℤ) where
  pub range_at : IsInRange built_in
      → IsInRange (number_at key fields (number_at default_key defaults built_in))
  range_at is =
      number_range (value_at key fields) (number_at default_key defaults built_in)
      (number_range (value_at default_key defaults) built_in is)

  pub bound_at : Each IsAllowed defaults → Each IsAllowed fields → IsBounding key
      → IsBounding default_key → IsBound built_in
      → IsBound (number_at key fields (number_at default_key defaults built_in))
  bound_at given each own other is =
      number_bound (value_at key fields) (number_at default_key defaults built_in)
      (value_allowed key fields own each)
      (number_bound (value_at default_key defaults) built_in
      (value_allowed default_key defaults other given) is)

pub zero_bound : IsBound (pos 0)
zero_bound = record { in_range = leb-true 0 amount_limit refl; not_negative = refl }

pub much_bound : IsBound much
much_bound = record { in_range = leb-true amount_limit amount_limit refl; not_negative = refl }
