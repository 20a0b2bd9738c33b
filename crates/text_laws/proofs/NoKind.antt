-- What is known of a line without a fault, section by section.
use Rattle.std.proofs.Common.{◌≡◌, ◌≤◌, ◌&&◌, ◌||◌, ◌==◌, Bool, true, false, not, nat_le, nat_lt, ℕ}
use Rattle.std.proofs.Common.{List, [], ◌∷◌, ◌++◌, length, filter, bytes_eq, find, Option, Some}
use Rattle.std.proofs.Common.{None, refl, if◌then◌else◌, ltb-false}
use Rattle.std.specs.List.{list_any}
use Rattle.std.proofs.lemmas.Bool.{or_parts, not-false}
use Rattle.text_rules.specs.problem_rules.Names.{is_name, is_among, has_double}
use Rattle.text_rules.specs.problem_rules.Each.{Each}
use Rattle.text_rules.specs.declared.Section.{Section}
use Rattle.text_rules.specs.declared.Section.TheVariants.{Preamble, MeasurementUnits, Defaults}
use Rattle.text_rules.specs.declared.Section.TheVariants.{Materials, OperatingUnits, Rates}
use Rattle.text_rules.specs.declared.Section.TheVariants.{Exclusions}
use Rattle.text_rules.specs.declared.TextKind.{TextKind}
use Rattle.text_rules.specs.declared.TextKind.TheVariants.{BadNumber, TooFine, TooLarge, Negative}
use Rattle.text_rules.specs.declared.TextKind.TheVariants.{ZeroRate}
use Rattle.text_rules.specs.Line.{Placed, is_section, is_at, lines_at, is_colon}
use Rattle.text_rules.specs.Field.{has_key, key_of, value_of, kind_words, material_keys, unit_keys}
use Rattle.text_rules.specs.Field.{default_keys, material_type, payout_period, sides_of}
use Rattle.text_rules.specs.Term.{Pair, sides_read, has_bad_sides, pairs_at}
use Rattle.text_rules.specs.Fault.{Fault, Seen, seen_after, fault_or, first_fault, line_fault}
use Rattle.text_rules.specs.Fault.{entry_fault, or_kind, number_kinds, millionths, is_payout}
use Rattle.text_rules.specs.Fault.{default_fault, default_number_stands, fields_fault, item_stands}
use Rattle.text_rules.specs.Fault.{has_unknown_key, keys_in, is_unknown_kind, material_fault}
use Rattle.text_rules.specs.Fault.{is_beyond, unit_fault, names_of, rate_stands, sides_fault}
use Rattle.text_rules.specs.Fault.{term_fault, doubled, exclusion_fault}
use Rattle.text_rules.specs.Value.{Settings, Names, first_meaning, line_meaning, entry_meaning}
use Rattle.text_laws.proofs.Each.{each-to}

-- if a chain of tests finds nothing, its first test fails and its rest finds nothing
pub if_none : {A : Type 0} (b : Bool) (x : A) (rest : Option A)
    → (if b then Some x else rest) ≡ None → (b ≡ false) × (rest ≡ None)
if_none true x rest e = cc
if_none false x rest e = (refl, e)

pub known_none : (b : Bool) (kind : TextKind) → let none : Option TextKind =
    None in (if b then none else Some kind) ≡ None → b ≡ true
known_none true kind e = refl
known_none false kind e = cc

or_none : (one rest : Option TextKind) → or_kind one rest ≡ None → (one ≡ None) × (rest ≡ None)
or_none (Some kind) rest e = cc
or_none None rest e = (refl, e)

pub fault_none : (number : ℕ) (kind : Option TextKind) (rest : Option Fault)
    → fault_or number kind rest ≡ None → (kind ≡ None) × (rest ≡ None)
fault_none number (Some kind) rest e = cc
fault_none number None rest e = (refl, e)

-- the fourth kind of fault of a number is that it is below 0
fourth_none : (test : TextKind → Bool) → find test number_kinds ≡ None → test Negative ≡ false
fourth_none test e =
    (if_none (test Negative) _ _
    (if_none (test TooLarge) _ _
    (if_none (test TooFine) _ _ (if_none (test BadNumber) _ _ e).1).1).1).0

-- ---- lines

-- of each line, after what was seen
abbrev pub IsFormed : Placed → Type 0
IsFormed line = (seen : Seen) × (line_fault seen line ≡ None)

pub formed_each : (seen : Seen) (lines : List Placed) → first_fault seen lines ≡ None
    → Each IsFormed lines
formed_each seen [] e = tt
formed_each seen (line ∷ lines) e = let parts =
    fault_none line.number _ _ e in
    ((seen, parts.0), formed_each (seen_after seen line) lines parts.1)

pub each_filter : {A : Type 0} (P : A → Type 0) (q : A → Bool) (xs : List A) → Each P xs
    → Each (λ x. (q x ≡ true) × P x) (filter q xs)
each_filter P q [] each = tt
each_filter P q (x ∷ xs) each = at (q x) refl (each_filter P q xs each.1) where
  at : (b : Bool) → q x ≡ b → Each (λ x. (q x ≡ true) × P x) (filter q xs)
      → Each (λ x. (q x ≡ true) × P x) (if b then x ∷ filter q xs else filter q xs)
  at true e rest = ((e, each.0), rest)
  at false e rest = rest

module _ (s : Settings) (names : Names) where
  pub meant_each : (lines : List Placed) → first_meaning s names lines ≡ None
      → Each (λ line. line_meaning s names line ≡ None) lines
  meant_each [] e = tt
  meant_each (line ∷ lines) e = let parts =
      fault_none line.number _ _ e in (parts.0, meant_each lines parts.1)

  -- at a line of the section
  abbrev pub IsClear : Section → List ℕ → Type 0
  IsClear section text = ((seen : Seen) × (entry_fault seen section text ≡ None))
      × (entry_meaning s names section text ≡ None)

  abbrev line_of : Section → Bool → List ℕ → Placed
  line_of section header text =
      record { number = 0; section = section; header = header; text = text }

  clear_line : (section other : Section) (header : Bool) (text : List ℕ)
      → (is_section section other && not header) ≡ true → IsFormed (line_of other header text)
      → line_meaning s names (line_of other header text) ≡ None → IsClear section text
  clear_line Preamble Preamble false text at formed meant = (formed, meant)
  clear_line MeasurementUnits MeasurementUnits false text at formed meant = (formed, meant)
  clear_line Defaults Defaults false text at formed meant = (formed, meant)
  clear_line Materials Materials false text at formed meant = (formed, meant)
  clear_line OperatingUnits OperatingUnits false text at formed meant = (formed, meant)
  clear_line Rates Rates false text at formed meant = (formed, meant)
  clear_line Exclusions Exclusions false text at formed meant = (formed, meant)
  clear_line section other header text at formed meant = cc

  pub clear_at : (section : Section) (lines : List Placed)
      → Each (λ line. IsFormed line × (line_meaning s names line ≡ None)) lines
      → Each (λ line. IsClear section line.text) (lines_at section lines)
  clear_at section lines each =
      each-to _ _
      (λ line is. clear_line section line.section line.header line.text is.0 is.1.0 is.1.1)
      (lines_at section lines) (each_filter _ (is_at section) lines each)

-- ---- sections

pub record NoDefaultFault (text : List ℕ) : Type 0 where
  pub value : default_number_stands Negative text ≡ false
  pub payout : (bytes_eq (key_of text) payout_period && not
      (is_payout (millionths (value_of text)))) ≡ false

pub no_default_fault : (keys : List (List ℕ)) (text : List ℕ) → default_fault keys text ≡ None
    → NoDefaultFault text
no_default_fault keys text e =
    let known =
    if_none (not (is_among default_keys (key_of text))) _ _
    (if_none (not (has_key text)) _ _ e).1 in
    let first = if_none (is_among keys (key_of text)) _ _ known.1 in
    let parts = or_none (find (λ kind. default_number_stands kind text) number_kinds) _ first.1 in
    let kind =
    if_none (bytes_eq (key_of text) material_type && not (is_among kind_words (value_of text)))
    _ _ parts.1 in
    record {
      value = fourth_none (λ kind. default_number_stands kind text) parts.0;
      payout =
          (if_none
          (bytes_eq (key_of text) payout_period && not (is_payout (millionths (value_of text)))) _ _
          kind.1).0;
    }

-- of a line of items, given whether the names before it leave room for one more
pub record NoItemsFault (names : List (List ℕ)) (name : List ℕ) (items : List (List ℕ))
    (full : Bool) : Type 0 where
  pub named : is_name name ≡ true
  pub values : list_any (item_stands Negative) items ≡ false
  pub first : is_among names name ≡ false
  pub room : full ≡ false

fields_none : (keys : List (List ℕ)) (name : List ℕ) (items : List (List ℕ))
    → fields_fault keys name items ≡ None → (is_name name ≡ true)
    × (list_any (item_stands Negative) items ≡ false)
fields_none keys name items e =
    let named = if_none (not (is_name name)) _ _ e in
    let known = if_none (list_any (has_unknown_key keys) items) _ _ named.1 in (
      not-false (is_name name) named.0,
      fourth_none (λ kind. list_any (item_stands kind) items)
          (if_none (has_double (keys_in items)) _ _ known.1).1,
    )

pub no_material_fault : (names : List (List ℕ)) (name : List ℕ) (items : List (List ℕ))
    → material_fault names name items ≡ None
    → NoItemsFault names name items (nat_le 256 (length names))
no_material_fault names name items e =
    let parts =
    or_none (fields_fault material_keys name items) _
    (if_none (list_any (λ item. length item == 0) items) _ _ e).1 in
    let fields = fields_none material_keys name items parts.0 in
    let first =
    if_none (is_among names name) _ _
    (if_none (list_any is_unknown_kind items) _ _ parts.1).1 in
    record {
      named = fields.0;
      values = fields.1;
      first = first.0;
      room =
          (if_none (nat_le 256 (length names)) _ _ first.1).0;
    }

pub no_unit_fault : (names seen : List (List ℕ)) (name : List ℕ) (items : List (List ℕ))
    → unit_fault names seen name items ≡ None → NoItemsFault names name items (is_beyond seen name)
no_unit_fault names seen name items e =
    let parts =
    or_none (fields_fault unit_keys name items) _
    (if_none (list_any (λ item. not (has_key item)) items) _ _ e).1 in
    let fields = fields_none unit_keys name items parts.0 in
    let first = if_none (is_among names name) _ _ parts.1 in
    record {
      named = fields.0;
      values = fields.1;
      first = first.0;
      room =
          (if_none (is_beyond seen name) _ _ first.1).0;
    }

pub record NoRatesFault (names seen : List (List ℕ)) (name : List ℕ) (left right : List Pair) : Type
    0 where
  pub named : is_name name ≡ true
  pub not_negative : list_any (rate_stands Negative) (left ++ right) ≡ false
  pub not_zero : list_any (rate_stands ZeroRate) (left ++ right) ≡ false
  pub once : (has_double (names_of left) || has_double (names_of right)) ≡ false
  pub apart : list_any (is_among (names_of right)) (names_of left) ≡ false
  pub some : (length left == 0 || length right == 0) ≡ false
  pub first : is_among names name ≡ false
  pub room : is_beyond seen name ≡ false

no_sides_fault : (names seen : List (List ℕ)) (name : List ℕ) (both : List Pair × List Pair)
    → sides_fault names seen name (Some both) ≡ None → NoRatesFault names seen name both.0 both.1
no_sides_fault names seen name both e =
    let bad : TextKind → Bool = λ kind. list_any (rate_stands kind) (both.0 ++ both.1) in
    let parts = or_none (term_fault name both.0 both.1) _ e in
    let named =
    if_none (not (is_name name) || list_any (λ term. not (is_name term.1)) (both.0 ++ both.1)) _
    _ parts.0 in
    let third =
    if_none (bad TooLarge) _ _
    (if_none (bad TooFine) _ _ (if_none (bad BadNumber) _ _ named.1).1).1 in
    let fourth = if_none (bad Negative) _ _ third.1 in
    let rest = or_none (doubled both.0 both.1) _ parts.1 in
    let once = if_none (has_double (names_of both.0) || has_double (names_of both.1)) _ _ rest.0 in
    let some = if_none (length both.0 == 0 || length both.1 == 0) _ _ rest.1 in
    let first = if_none (is_among names name) _ _ some.1 in
    record {
      named = not-false (is_name name) (or_parts (not (is_name name)) _ named.0).0;
      not_negative = fourth.0;
      not_zero = (if_none (bad ZeroRate) _ _ fourth.1).0;
      once = once.0;
      apart = (if_none (list_any (is_among (names_of both.1)) (names_of both.0)) _ _ once.1).0;
      some = some.0;
      first = first.0;
      room = (if_none (is_beyond seen name) _ _ first.1).0;
    }

pub no_rates_fault : (names seen : List (List ℕ)) (name text : List ℕ)
    → sides_fault names seen name (sides_read (sides_of text)) ≡ None
    → NoRatesFault names seen name (pairs_at text).0 (pairs_at text).1
no_rates_fault names seen name text e =
    no_sides_fault names seen name (pairs_at text)
    (read (has_bad_sides (sides_of text)) (pairs_at text) e) where
      read : (bad : Bool) (both : List Pair × List Pair)
          → sides_fault names seen name (if bad then None else Some both) ≡ None
          → sides_fault names seen name (Some both) ≡ None
      read true both e = cc
      read false both e = e

pub record NoExclusionFault (names : List (List ℕ)) (name : List ℕ) (items : List (List ℕ)) : Type
    0 where
  pub named : is_name name ≡ true
  pub room : nat_le 64 (length names) ≡ false
  pub first : is_among names name ≡ false
  pub once : has_double items ≡ false
  pub enough : 2 ≤ length items

pub no_exclusion_fault : (names : List (List ℕ)) (text name : List ℕ) (items : List (List ℕ))
    → exclusion_fault names text name items ≡ None → NoExclusionFault names name items
no_exclusion_fault names text name items e =
    let formed =
    if_none (not (list_any is_colon text) || list_any (λ item. length item == 0) items) _ _ e in
    let named =
    if_none (not (is_name name) || list_any (λ item. not (is_name item)) items) _ _ formed.1 in
    let room = if_none (nat_le 64 (length names)) _ _ named.1 in
    let first = if_none (is_among names name) _ _ room.1 in
    let once = if_none (has_double items) _ _ first.1 in
    record {
      named = not-false (is_name name) (or_parts (not (is_name name)) _ named.0).0;
      room = room.0;
      first = first.0;
      once = once.0;
      enough = ltb-false (length items) 2 (if_none (nat_lt (length items) 2) _ _ once.1).0;
    }
