-- The lines of materials, of the payout and of units in a canonical text have no fault of form.
use Rattle.std.proofs.Common.{◌≡◌, ◌<◌, ◌≤◌, ◌*◌, ◌/◌, ◌%◌, ◌==◌, true, false, not, ℕ, List, []}
use Rattle.std.proofs.Common.{◌∷◌, ◌++◌, length, codes, decimal, find, Option, None, Some, Ok, ℤ}
use Rattle.std.proofs.Common.{pos, int_lt, unsigned_abs, refl, sym, ◌∙◌, ap, arith, if◌then◌else◌}
use Rattle.std.proofs.Common.{append-nil, mul-div_cancel, le-ltb, lt-ltb, le-leb, nat_le}
use Rattle.std.specs.List.{list_any}
use Rattle.std.specs.Result.{result_unwrap_or}
use Rattle.std.proofs.lemmas.Bool.{cond_both, cond-false, lt-leb, and_right, and_from}
use Rattle.std.proofs.Math.Nat.{mul-mod_left}
use Rattle.text_rules.specs.problem_rules.Names.{is_name, is_among, has_double}
use Rattle.text_rules.specs.problem_rules.Problem.{Kind, raw_material, intermediate, product}
use Rattle.text_rules.specs.problem_rules.Problem.{Material}
use Rattle.text_rules.specs.problem_rules.Problem.{OperatingUnit}
use Rattle.text_rules.specs.problem_rules.Each.{Each}
use Rattle.text_rules.specs.problem_rules.WellFormed.{IsBound, IsWellFormedMaterial}
use Rattle.text_rules.specs.problem_rules.WellFormed.{IsWellFormedUnit}
use Rattle.text_rules.specs.declared.TextKind.{TextKind}
use Rattle.text_rules.specs.declared.TextKind.TheVariants.{BadLine, BadName, UnknownKey, DoubleKey}
use Rattle.text_rules.specs.declared.TextKind.TheVariants.{UnknownKind, DoubleMaterial, DoubleUnit}
use Rattle.text_rules.specs.declared.TextKind.TheVariants.{TooMany, BadPayout}
use Rattle.text_rules.specs.Blanks.{is_blank, trim}
use Rattle.text_rules.specs.Line.{head_of}
use Rattle.text_rules.specs.Amount.{amount_of, amount_limit}
use Rattle.text_rules.specs.Printed.{amount_bytes, places}
use Rattle.text_rules.specs.Field.{has_key, items_of, material_keys, unit_keys, payout_period}
use Rattle.text_rules.specs.Fault.{may_be_negative, millionths, is_payout, or_kind, number_kinds}
use Rattle.text_rules.specs.Fault.{item_stands, has_unknown_key, keys_in, fields_fault}
use Rattle.text_rules.specs.Fault.{is_unknown_kind, is_beyond, material_rest, material_fault}
use Rattle.text_rules.specs.Fault.{unit_rest, unit_fault, default_number_stands, default_rest}
use Rattle.text_rules.specs.Fault.{default_fault}
use Rattle.text_rules.specs.Canonical.{kind_word, material_items, unit_items, is_zero, field}
use Rattle.text_rules.specs.Canonical.{field_unless_zero}
use Rattle.text_laws.proofs.PrintedAmount.{amounts_read_back}
use Rattle.text_laws.proofs.Each.{each-to, none_from_each}
use Rattle.text_laws.proofs.Cuts.{trim_none}
use Rattle.text_laws.proofs.Pieces.{IsPiece, word_piece, piece_none, piece_long, no_blank}
use Rattle.text_laws.proofs.PrintedItems.{material_pieces}
use Rattle.text_laws.proofs.Words.{amount_word}
use Rattle.text_laws.proofs.CanonicalParts.{IsItemLine, material_line, unit_line, material_text}
use Rattle.text_laws.proofs.CanonicalParts.{unit_text, payout_text}
use Rattle.text_laws.proofs.Clear.{find_none, kinds_clear, IsGoodValue, good_bound, good_free}

pub amount_trimmed : (z : ℤ) → unsigned_abs z ≤ amount_limit
    → amount_of (trim (amount_bytes z)) ≡ Ok z
amount_trimmed z small =
    ap amount_of
    (trim_none (amount_bytes z)
    (piece_none is_blank no_blank (amount_bytes z)
    (word_piece (amount_bytes z) (amount_word z small)))) ∙ amounts_read_back z small

bound : (key : List ℕ) (z : ℤ) → IsBound z → IsGoodValue key (trim (amount_bytes z))
bound key z good =
    good_bound key (trim (amount_bytes z)) z (amount_trimmed z good.in_range) good.not_negative

free : (key : List ℕ) (z : ℤ) → may_be_negative key ≡ true → unsigned_abs z ≤ amount_limit
    → IsGoodValue key (trim (amount_bytes z))
free key z may small = good_free key (trim (amount_bytes z)) z (amount_trimmed z small) (ap not may)

-- ---- fields

-- an item whose number has no fault
abbrev IsGoodItem : List ℕ → Type 0
IsGoodItem item = Each (λ kind. item_stands kind item ≡ false) number_kinds

fields_clear : (keys : List (List ℕ)) (name : List ℕ) (items : List (List ℕ)) → is_name name ≡ true
    → list_any (has_unknown_key keys) items ≡ false → has_double (keys_in items) ≡ false
    → Each IsGoodItem items → fields_fault keys name items ≡ None
fields_clear keys name items named known once each =
    let numbers : Option TextKind = find (λ kind. list_any (item_stands kind) items) number_kinds in
    cond-false (not (is_name name)) (Some BadName) _ (ap not named)
    ∙ cond-false (list_any (has_unknown_key keys) items) (Some UnknownKey) _ known
    ∙ cond-false (has_double (keys_in items)) (Some DoubleKey) numbers once
    ∙ kinds_clear item_stands number_kinds items each

-- ---- materials

module _ (names : List (List ℕ)) (m : Material) (good : IsWellFormedMaterial m)
    (fresh : is_among names m.name ≡ false) (few : length names < 256) where
  abbrev with_word : List ℕ → List (List ℕ)
  with_word word = word ∷ field (codes "price") (amount_bytes m.price)
      ∷ field (codes "flow_rate_lower_bound") (amount_bytes m.lower)
      ∷ field (codes "flow_rate_upper_bound") (amount_bytes m.upper) ∷ []

  no_empty : list_any (λ item. length item == 0) (material_items m) ≡ false
  no_empty =
      none_from_each (λ item. length item == 0) (material_items m)
      (each-to IsPiece (λ item. (length item == 0) ≡ false) piece_long (material_items m)
      (material_pieces m good))

  rest_clear : (items : List (List ℕ)) → list_any is_unknown_kind items ≡ false
      → material_rest names m.name items ≡ None
  rest_clear items known =
      cond-false (list_any is_unknown_kind items) (Some UnknownKind) _ known
      ∙ cond-false (is_among names m.name) (Some DoubleMaterial) _ fresh
      ∙ cond-false (nat_le 256 (length names)) (Some TooMany) None (lt-leb 256 (length names) few)

  word_clear : (word : List ℕ) → list_any (has_unknown_key material_keys) (with_word word) ≡ false
      → has_double (keys_in (with_word word)) ≡ false → Each IsGoodItem (with_word word)
      → list_any is_unknown_kind (with_word word) ≡ false
      → or_kind (fields_fault material_keys m.name (with_word word))
      (material_rest names m.name (with_word word)) ≡ None
  word_clear word keys once numbers kinds =
      ap (λ kind. or_kind kind (material_rest names m.name (with_word word)))
      (fields_clear material_keys m.name (with_word word) good.named keys once numbers)
      ∙ rest_clear (with_word word) kinds

  kind_clear : (kind : Kind)
      → or_kind (fields_fault material_keys m.name (with_word (kind_word kind)))
      (material_rest names m.name (with_word (kind_word kind))) ≡ None
  kind_clear raw_material =
      word_clear (codes "raw_material") refl refl (
        (refl, (refl, (refl, (refl, tt)))),
        (
          free (codes "price") m.price refl good.price_in_range,
          (
            bound (codes "flow_rate_lower_bound") m.lower good.bounds.lower_bound,
            (bound (codes "flow_rate_upper_bound") m.upper good.bounds.upper_bound, tt),
          ),
        ),
      ) refl
  kind_clear intermediate =
      word_clear (codes "intermediate") refl refl (
        (refl, (refl, (refl, (refl, tt)))),
        (
          free (codes "price") m.price refl good.price_in_range,
          (
            bound (codes "flow_rate_lower_bound") m.lower good.bounds.lower_bound,
            (bound (codes "flow_rate_upper_bound") m.upper good.bounds.upper_bound, tt),
          ),
        ),
      ) refl
  kind_clear product =
      word_clear (codes "product") refl refl (
        (refl, (refl, (refl, (refl, tt)))),
        (
          free (codes "price") m.price refl good.price_in_range,
          (
            bound (codes "flow_rate_lower_bound") m.lower good.bounds.lower_bound,
            (bound (codes "flow_rate_upper_bound") m.upper good.bounds.upper_bound, tt),
          ),
        ),
      ) refl

  pub material_clear : material_fault names (head_of (material_text m)) (items_of (material_text m))
      ≡ None
  material_clear =
      let line : IsItemLine m.name (material_items m) = material_line m good in
      ap (λ (name : List ℕ). material_fault names name (items_of (material_text m))) line.head
      ∙ ap (material_fault names m.name) line.apart
      ∙ cond-false (list_any (λ item. length item == 0) (material_items m)) (Some BadLine) _
      no_empty
      ∙ kind_clear m.kind

-- ---- the payout

pub payout_amount : (k : ℕ) → k ≤ 100 → amount_of (trim (decimal k)) ≡ Ok (pos (k * 1000000))
payout_amount k small =
    let z : ℤ = pos (k * 1000000) in
    let whole : k * 1000000 / 1000000 ≡ k = mul-div_cancel k (omega arith) in
    let none : k * 1000000 % 1000000 ≡ 0 = mul-mod_left k 1000000 in
    let unsigned : int_lt z (pos 0) ≡ false = le-ltb (k * 1000000) 0 (omega arith) in
    let text : amount_bytes z ≡ decimal k =
    ap (λ b. (if b then 45 ∷ [] else []) ++ decimal (k * 1000000 / 1000000)
    ++ (if k * 1000000 % 1000000 == 0 then [] else 46 ∷ places 6 (k * 1000000 % 1000000)))
    unsigned
    ∙ ap
    (λ n. decimal n
    ++ (if k * 1000000 % 1000000 == 0 then [] else 46 ∷ places 6 (k * 1000000 % 1000000))) whole
    ∙ ap (λ n. decimal k ++ (if n == 0 then [] else 46 ∷ places 6 n)) none
    ∙ append-nil (decimal k) in
    ap (λ (t : List ℕ). amount_of (trim t)) (sym text) ∙ amount_trimmed z (omega arith)

pub payout_clear : (k : ℕ) → 1 ≤ k → k ≤ 100 → default_fault [] (payout_text k) ≡ None
payout_clear k low small =
    let numbers : IsGoodValue payout_period (trim (decimal k)) =
    good_free payout_period (trim (decimal k)) (pos (k * 1000000)) (payout_amount k small)
    refl in
    let none : k * 1000000 % 1000000 ≡ 0 = mul-mod_left k 1000000 in
    let good : is_payout (pos (k * 1000000)) ≡ true =
    and_from _ _ (and_from _ _ (lt-ltb 0 (k * 1000000) (omega arith)) (ap (λ n. n == 0) none))
    (le-leb (k * 1000000) 100000000 (omega arith)) in
    let bad : not (is_payout (millionths (trim (decimal k)))) ≡ false =
    ap (λ r. not (is_payout (result_unwrap_or r (pos 0)))) (payout_amount k small)
    ∙ ap not good in
    ap (λ kind. or_kind kind (default_rest (payout_text k)))
    (find_none (λ kind. default_number_stands kind (payout_text k)) number_kinds numbers)
    ∙ cond-false (not (is_payout (millionths (trim (decimal k))))) (Some BadPayout) None bad

-- ---- units

-- a unit's items: the first four, then these
abbrev pub with_costs : OperatingUnit → List (List ℕ) → List (List ℕ) → List (List ℕ)
with_costs u one two =
    field (codes "capacity_lower_bound") (amount_bytes u.lower)
    ∷ field (codes "capacity_upper_bound") (amount_bytes u.upper)
    ∷ field (codes "fix_cost") (amount_bytes u.fix)
    ∷ field (codes "proportional_cost") (amount_bytes u.proportional) ∷ one ++ two

module _ (names : List (List ℕ)) (count : ℕ) (u : OperatingUnit) (good : IsWellFormedUnit count u)
    (fresh : is_among names u.name ≡ false) (few : length names < 128) where
  unit_rest_clear : unit_rest names names u.name ≡ None
  unit_rest_clear =
      cond-false (is_among names u.name) (Some DoubleUnit) _ fresh
      ∙ cond-false (is_beyond names u.name) (Some TooMany) None
      (and_right (not (is_among names u.name)) (nat_le 128 (length names))
      (lt-leb 128 (length names) few))

  costs_clear : (items : List (List ℕ)) → list_any (λ item. not (has_key item)) items ≡ false
      → list_any (has_unknown_key unit_keys) items ≡ false → has_double (keys_in items) ≡ false
      → Each IsGoodItem items → unit_fault names names u.name items ≡ None
  costs_clear items keyed keys once numbers =
      cond-false (list_any (λ item. not (has_key item)) items) (Some BadLine) _ keyed
      ∙ ap (λ kind. or_kind kind (unit_rest names names u.name))
      (fields_clear unit_keys u.name items good.named keys once numbers) ∙ unit_rest_clear

  fields_good : (rest : List (List ℕ)) → Each IsGoodItem rest
      → Each IsGoodItem (with_costs u [] rest)
  fields_good rest each = (
    bound (codes "capacity_lower_bound") u.lower good.bounds.lower_bound,
    (
      bound (codes "capacity_upper_bound") u.upper good.bounds.upper_bound,
      (
        bound (codes "fix_cost") u.fix good.fix,
        (free (codes "proportional_cost") u.proportional refl good.proportional, each),
      ),
    ),
  )

  pub unit_clear : unit_fault names names (head_of (unit_text u)) (items_of (unit_text u)) ≡ None
  unit_clear =
      let line : IsItemLine u.name (unit_items u) = unit_line count u good in
      let fix : List ℕ = field (codes "investment_fix_cost") (amount_bytes u.investment_fix) in
      let proportional : List ℕ =
      field (codes "investment_proportional_cost") (amount_bytes u.investment_proportional) in
      let fix_good : IsGoodItem fix =
      bound (codes "investment_fix_cost") u.investment_fix good.investment_fix in
      let proportional_good : IsGoodItem proportional =
      free (codes "investment_proportional_cost") u.investment_proportional refl
      good.investment_proportional in
      ap (λ (name : List ℕ). unit_fault names names name (items_of (unit_text u))) line.head
      ∙ ap (unit_fault names names u.name) line.apart
      ∙ cond_both (is_zero u.investment_fix) [] (fix ∷ [])
      (λ one. unit_fault names names u.name
      (with_costs u one
      (field_unless_zero (codes "investment_proportional_cost") u.investment_proportional))
      ≡ None)
      (λ e. cond_both (is_zero u.investment_proportional) [] (proportional ∷ [])
      (λ two. unit_fault names names u.name (with_costs u [] two) ≡ None)
      (λ e. costs_clear (with_costs u [] []) refl refl refl (fields_good [] tt))
      (λ e. costs_clear (with_costs u [] (proportional ∷ [])) refl refl refl
      (fields_good (proportional ∷ []) (proportional_good, tt))))
      (λ e. cond_both (is_zero u.investment_proportional) [] (proportional ∷ [])
      (λ two. unit_fault names names u.name (with_costs u (fix ∷ []) two) ≡ None)
      (λ e. costs_clear (with_costs u (fix ∷ []) []) refl refl refl
      (fields_good (fix ∷ []) (fix_good, tt)))
      (λ e. costs_clear (with_costs u (fix ∷ []) (proportional ∷ [])) refl refl refl
      (fields_good (fix ∷ proportional ∷ []) (fix_good, (proportional_good, tt)))))
