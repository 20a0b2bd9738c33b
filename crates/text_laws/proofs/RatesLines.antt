-- The lines of rates and of exclusions in a canonical text have no fault of form.
use Rattle.std.proofs.Common.{◌≡◌, ◌<◌, ◌≤◌, ◌||◌, ◌==◌, Bool, true, false, not, ℕ, zero, suc, List}
use Rattle.std.proofs.Common.{[], ◌∷◌, ◌++◌, length, get_or, map, codes, bytes_eq, Option, Some}
use Rattle.std.proofs.Common.{None, Ok, ℤ, pos, negsuc, int_lt, unsigned_abs, nat_le, nat_lt, refl}
use Rattle.std.proofs.Common.{sym, ◌∙◌, ap, arith, eqb-true, le-ltb, ne_eqb, eq-eqb, if◌then◌else◌}
use Rattle.std.proofs.Common.{slice_index_or}
use Rattle.std.specs.List.{list_any}
use Rattle.std.proofs.lemmas.Bool.{cond_both, cond-false, lt-leb, and_left, and_right, or_parts}
use Rattle.std.proofs.lemmas.Bool.{or_from, true≢false}
use Rattle.std.proofs.lemmas.List.{length-map}
use Rattle.text_rules.specs.problem_rules.Each.{Each}
use Rattle.text_rules.specs.problem_rules.Names.{is_name, is_among, has_double}
use Rattle.text_rules.specs.problem_rules.Problem.{Term, OperatingUnit, Exclusion, numbers_of}
use Rattle.text_rules.specs.problem_rules.WellFormed.{IsWellFormedTerm, IsWellFormedSide}
use Rattle.text_rules.specs.problem_rules.WellFormed.{IsWellFormedUnit}
use Rattle.text_rules.specs.problem_rules.WellFormed.{IsWellFormedExclusion}
use Rattle.text_rules.specs.declared.TextKind.{TextKind}
use Rattle.text_rules.specs.declared.TextKind.TheVariants.{BadLine, BadName, BadNumber, TooFine}
use Rattle.text_rules.specs.declared.TextKind.TheVariants.{TooLarge, Negative, ZeroRate, DoubleTerm}
use Rattle.text_rules.specs.declared.TextKind.TheVariants.{BothSides, EmptySide, DoubleRates}
use Rattle.text_rules.specs.declared.TextKind.TheVariants.{TooMany, DoubleExclusion, DoubleMember}
use Rattle.text_rules.specs.declared.TextKind.TheVariants.{FewMembers}
use Rattle.text_rules.specs.Amount.{amount_of}
use Rattle.text_rules.specs.Line.{is_colon, head_of}
use Rattle.text_rules.specs.Printed.{amount_bytes}
use Rattle.text_rules.specs.Field.{items_of, sides_of}
use Rattle.text_rules.specs.Term.{Pair, pair_of, pairs_at, is_bad_term, has_bad_sides, sides_read}
use Rattle.text_rules.specs.Fault.{or_kind, names_of, rate_stands, number_stands, rate_kinds}
use Rattle.text_rules.specs.Fault.{term_fault, doubled, is_beyond, whole_fault, sides_fault}
use Rattle.text_rules.specs.Fault.{exclusion_fault}
use Rattle.text_rules.specs.Canonical.{name_at, term_tokens}
use Rattle.text_laws.proofs.Numbers.{has_number, has_double_number, repeats_same, sides_apart}
use Rattle.text_laws.proofs.Numbers.{rising_within, rising_double}
use Rattle.text_laws.proofs.PrintedAmount.{amounts_read_back}
use Rattle.text_laws.proofs.Each.{each-to, each-map, each-append, none_from_each}
use Rattle.text_laws.proofs.CanonicalParts.{IsItemLine, IsRatesLine, rates_text, exclusion_text}
use Rattle.text_laws.proofs.Names.{bytes_differ}
use Rattle.text_laws.proofs.PrintedItems.{name_at_each}
use Rattle.text_laws.proofs.Pieces.{word_piece, piece_long}
use Rattle.text_laws.proofs.Words.{name_word}
use Rattle.text_laws.proofs.Clear.{kinds_clear}

pub positive_sign : (z : ℤ) → int_lt (pos 0) z ≡ true → int_lt z (pos 0) ≡ false
positive_sign (pos n) is = le-ltb n 0 (omega arith)
positive_sign (negsuc n) is = absurd (true≢false (sym is))

pub one_rate : (z : ℤ) → int_lt (pos 0) z ≡ true → (unsigned_abs z == 1000000) ≡ true
    → z ≡ pos 1000000
one_rate (pos n) is e = ap pos (eqb-true n 1000000 e)
one_rate (negsuc n) is e = absurd (true≢false (sym is))

none_at : {A : Type 0} (p : A → Bool) (xs : List A) (k : ℕ) (d : A) → list_any p xs ≡ false
    → k < length xs → p (get_or xs k d) ≡ false
none_at p [] k d none lt = absurd (omega arith)
none_at p (x ∷ xs) zero d none lt = (or_parts (p x) (list_any p xs) none).0
none_at p (x ∷ xs) (suc k) d none lt =
    none_at p xs k d ((or_parts (p x) (list_any p xs) none).1) (omega arith)

-- different numbers have different names
pub name_at_apart : (names : List (List ℕ)) (i j : ℕ) → has_double names ≡ false → i < length names
    → j < length names → (i ≡ j → ⊥) → bytes_eq (name_at names i) (name_at names j) ≡ false
name_at_apart [] i j off lt lt' ne = absurd (omega arith)
name_at_apart (name ∷ names) zero zero off lt lt' ne = absurd (ne refl)
name_at_apart (name ∷ names) zero (suc j) off lt lt' ne =
    bytes_differ (name_at names j) name
    (none_at (λ word. bytes_eq word name) names j []
    ((or_parts (is_among names name) (has_double names) off).0) (omega arith))
name_at_apart (name ∷ names) (suc i) zero off lt lt' ne =
    none_at (λ word. bytes_eq word name) names i []
    ((or_parts (is_among names name) (has_double names) off).0) (omega arith)
name_at_apart (name ∷ names) (suc i) (suc j) off lt lt' ne =
    name_at_apart names i j ((or_parts (is_among names name) (has_double names) off).1)
    (omega arith) (omega arith) (λ e. ne (ap suc e))

module _ (names : List (List ℕ)) (distinct_names : has_double names ≡ false) where
  pub among_numbers : (ks : List ℕ) (k : ℕ) → Each (λ j. j < length names) ks → k < length names
      → has_number k ks ≡ false → is_among (map (name_at names) ks) (name_at names k) ≡ false
  among_numbers [] k each lt none = refl
  among_numbers (j ∷ ks) k each lt none =
      let parts : ((j == k) ≡ false) × (has_number k ks ≡ false) =
      or_parts (j == k) (has_number k ks) none in
      or_from (bytes_eq (name_at names j) (name_at names k))
      (is_among (map (name_at names) ks) (name_at names k))
      (name_at_apart names j k distinct_names each.0 lt
      (λ e. true≢false (sym (ap (λ n. n == k) e ∙ eq-eqb k k refl) ∙ parts.0)))
      (among_numbers ks k each.1 lt parts.1)

  pub double_numbers : (ks : List ℕ) → Each (λ j. j < length names) ks
      → has_double_number ks ≡ false → has_double (map (name_at names) ks) ≡ false
  double_numbers [] each none = refl
  double_numbers (k ∷ ks) each none =
      let parts : (has_number k ks ≡ false) × (has_double_number ks ≡ false) =
      or_parts (has_number k ks) (has_double_number ks) none in
      or_from (is_among (map (name_at names) ks) (name_at names k))
      (has_double (map (name_at names) ks)) (among_numbers ks k each.1 each.0 parts.0)
      (double_numbers ks each.1 parts.1)

  pub shared_numbers : (js ks : List ℕ) → Each (λ j. j < length names) js
      → Each (λ k. k < length names) ks → list_any (λ k. has_number k js) ks ≡ false
      → list_any (is_among (map (name_at names) js)) (map (name_at names) ks) ≡ false
  shared_numbers js [] each within none = refl
  shared_numbers js (k ∷ ks) each within none =
      let parts : (has_number k js ≡ false) × (list_any (λ k. has_number k js) ks ≡ false) =
      or_parts (has_number k js) (list_any (λ k. has_number k js) ks) none in
      or_from (is_among (map (name_at names) js) (name_at names k))
      (list_any (is_among (map (name_at names) js)) (map (name_at names) ks))
      (among_numbers js k each within.0 parts.0) (shared_numbers js ks each within.1 parts.1)

-- ---- terms

-- a term as a rate and a name
abbrev pub rate_text : Term → List ℕ
rate_text t = if unsigned_abs t.rate == 1000000 then codes "1" else amount_bytes t.rate

abbrev pub pair : List (List ℕ) → Term → Pair
pair names t = (rate_text t, name_at names t.material)

pub rate_reads : (count : ℕ) (t : Term) → IsWellFormedTerm count t
    → amount_of (rate_text t) ≡ Ok t.rate
rate_reads count t good =
    cond_both (unsigned_abs t.rate == 1000000) (codes "1") (amount_bytes t.rate)
    (λ text. amount_of text ≡ Ok t.rate)
    (λ e. ap Ok (sym (one_rate t.rate good.positive e)))
    (λ e. amounts_read_back t.rate good.in_range)

-- its tokens
tokens_apart : (names : List (List ℕ)) (t : Term) → (pair_of (term_tokens names t) ≡ pair names t)
    × (is_bad_term (term_tokens names t) ≡ false)
tokens_apart names t = at (unsigned_abs t.rate == 1000000) where
  at : (one : Bool) → let tokens : List (List ℕ) =
      if one then name_at names t.material ∷ [] else amount_bytes t.rate ∷ name_at names t.material
      ∷ [] in
      (pair_of tokens ≡ (if one then codes "1" else amount_bytes t.rate, name_at names t.material))
      × (is_bad_term tokens ≡ false)
  at true = (refl, refl)
  at false = (refl, refl)

pairs_are : (names : List (List ℕ)) (terms : List Term)
    → map pair_of (map (term_tokens names) terms) ≡ map (pair names) terms
pairs_are names [] = refl
pairs_are names (t ∷ terms) =
    ap (λ (one : Pair). one ∷ map pair_of (map (term_tokens names) terms)) (tokens_apart names t).0
    ∙ ap (λ (pairs : List Pair). pair names t ∷ pairs) (pairs_are names terms)

few_tokens : (names : List (List ℕ)) (terms : List Term)
    → Each (λ term. is_bad_term term ≡ false) (map (term_tokens names) terms)
few_tokens names [] = tt
few_tokens names (t ∷ terms) = ((tokens_apart names t).1, few_tokens names terms)

names_are : (names : List (List ℕ)) (terms : List Term)
    → names_of (map (pair names) terms) ≡ map (name_at names) (numbers_of terms)
names_are names [] = refl
names_are names (t ∷ terms) =
    ap (λ (rest : List (List ℕ)). name_at names t.material ∷ rest) (names_are names terms)

-- the pairs of both sides
module _ (names : List (List ℕ)) (u : OperatingUnit) (line : IsRatesLine names u) where
  pub pairs_back : pairs_at (rates_text names u)
      ≡ (map (pair names) u.inputs, map (pair names) u.outputs)
  pairs_back =
      ap (λ (sides : List (List (List (List ℕ)))).
      (map pair_of (slice_index_or sides 0 []), map pair_of (slice_index_or sides 1 [])))
      line.sides
      ∙ ap (λ (pairs : List Pair). (pairs, map pair_of (map (term_tokens names) u.outputs)))
      (pairs_are names u.inputs)
      ∙ ap (λ (pairs : List Pair). (map (pair names) u.inputs, pairs)) (pairs_are names u.outputs)

  sides_back : sides_read (sides_of (rates_text names u))
      ≡ Some (map (pair names) u.inputs, map (pair names) u.outputs)
  sides_back =
      let left : List (List (List ℕ)) = map (term_tokens names) u.inputs in
      let right : List (List (List ℕ)) = map (term_tokens names) u.outputs in
      let bad : list_any is_bad_term (left ++ (right ++ [])) ≡ false =
      none_from_each is_bad_term (left ++ (right ++ []))
      (each-append (λ term. is_bad_term term ≡ false) left (right ++ []) (few_tokens names u.inputs)
      (each-append (λ term. is_bad_term term ≡ false) right [] (few_tokens names u.outputs)
      tt)) in
      cond-false (has_bad_sides (sides_of (rates_text names u))) None
      (Some (pairs_at (rates_text names u))) (ap has_bad_sides line.sides ∙ bad)
      ∙ ap Some pairs_back

-- ---- rates

-- a term without a fault
record IsGoodPair (one : Pair) : Type 0 where
  named : not (is_name one.1) ≡ false
  rate : Each (λ kind. rate_stands kind one ≡ false) rate_kinds

pair_good : (names : List (List ℕ)) → Each (λ name. is_name name ≡ true) names → (t : Term)
    → IsWellFormedTerm (length names) t → IsGoodPair (pair names t)
pair_good names each t good =
    let reads : amount_of (rate_text t) ≡ Ok t.rate = rate_reads (length names) t good in
    record {
      named = ap not (name_at_each (λ name. is_name name ≡ true) names t.material each good.known);
      rate = (
        ap (number_stands BadNumber) reads,
        (
          ap (number_stands TooFine) reads,
          (
            ap (number_stands TooLarge) reads,
            (
              ap (number_stands Negative) reads ∙ positive_sign t.rate good.positive,
              (
                ap (number_stands ZeroRate) reads
                    ∙ and_right (not (int_lt t.rate (pos 0))) (not (int_lt (pos 0) t.rate))
                    (ap not good.positive),
                tt,
              ),
            ),
          ),
        ),
      );
    }

some_pair : (names : List (List ℕ)) (terms : List Term) → 0 < length terms
    → (length (map (pair names) terms) == 0) ≡ false
some_pair names terms some =
    ne_eqb (length (map (pair names) terms)) 0
    (λ e. absurd (omega (arith, e, length-map terms (pair names))))

module _ (names : List (List ℕ)) (each : Each (λ name. is_name name ≡ true) names)
    (distinct_names : has_double names ≡ false) (u : OperatingUnit)
    (good : IsWellFormedUnit (length names) u) where
  abbrev left : List Pair
  left = map (pair names) u.inputs

  abbrev right : List Pair
  right = map (pair names) u.outputs

  pairs_good : (terms : List Term) → Each (IsWellFormedTerm (length names)) terms
      → Each IsGoodPair (map (pair names) terms)
  pairs_good terms goods =
      each-map IsGoodPair (pair names) terms
      (each-to (IsWellFormedTerm (length names)) (λ t. IsGoodPair (pair names t))
      (pair_good names each) terms goods)

  both_good : Each IsGoodPair (left ++ right)
  both_good =
      each-append IsGoodPair left right (pairs_good u.inputs good.inputs.terms_formed)
      (pairs_good u.outputs good.outputs.terms_formed)

  terms_clear : term_fault u.name left right ≡ None
  terms_clear =
      let named : list_any (λ (one : Pair). not (is_name one.1)) (left ++ right) ≡ false =
      none_from_each (λ (one : Pair). not (is_name one.1)) (left ++ right)
      (each-to IsGoodPair (λ one. not (is_name one.1) ≡ false) (λ one is. is.named)
      (left ++ right) both_good) in
      cond-false
      (not (is_name u.name) || list_any (λ (one : Pair). not (is_name one.1)) (left ++ right))
      (Some BadName) _ (or_from _ _ (ap not good.named) named)
      ∙ kinds_clear rate_stands rate_kinds (left ++ right)
      (each-to IsGoodPair (λ one. Each (λ kind. rate_stands kind one ≡ false) rate_kinds)
      (λ one is. is.rate) (left ++ right) both_good)

  within : (side : List Term) → Each (IsWellFormedTerm (length names)) side
      → Each (λ k. k < length names) (numbers_of side)
  within side goods =
      each-map (λ k. k < length names) (λ (t : Term). t.material) side
      (each-to (IsWellFormedTerm (length names)) (λ t. t.material < length names) (λ t g. g.known)
      side goods)

  side_double : (side : List Term) → IsWellFormedSide (length names) side
      → has_double (names_of (map (pair names) side)) ≡ false
  side_double side is = ap has_double (names_are names side)
      ∙ double_numbers names distinct_names (numbers_of side) (within side is.terms_formed)
      (sym (repeats_same side) ∙ is.once)

  shared : list_any (is_among (names_of right)) (names_of left) ≡ false
  shared =
      ap (λ (os : List (List ℕ)). list_any (is_among os) (names_of left))
      (names_are names u.outputs)
      ∙ ap (list_any (is_among (map (name_at names) (numbers_of u.outputs))))
      (names_are names u.inputs)
      ∙ shared_numbers names distinct_names (numbers_of u.outputs) (numbers_of u.inputs)
      (within u.outputs good.outputs.terms_formed) (within u.inputs good.inputs.terms_formed)
      (sides_apart u.inputs u.outputs good.sides_apart)

  doubled_clear : doubled left right ≡ None
  doubled_clear =
      cond-false (has_double (names_of left) || has_double (names_of right)) (Some DoubleTerm) _
      (or_from _ _ (side_double u.inputs good.inputs) (side_double u.outputs good.outputs))
      ∙ cond-false (list_any (is_among (names_of right)) (names_of left)) (Some BothSides) None
      shared

  -- the unit has a line of its own
  pub rates_clear : (old seen : List (List ℕ)) → is_among old u.name ≡ false
      → is_among seen u.name ≡ true → IsRatesLine names u
      → sides_fault old seen (head_of (rates_text names u))
      (sides_read (sides_of (rates_text names u))) ≡ None
  rates_clear old seen fresh listed line =
      ap (λ (name : List ℕ). sides_fault old seen name (sides_read (sides_of (rates_text names u))))
      line.head
      ∙ ap (sides_fault old seen u.name) (sides_back names u line)
      ∙ ap
      (λ (kind : Option TextKind). or_kind kind
      (or_kind (doubled left right) (whole_fault old seen u.name left right))) terms_clear
      ∙ ap (λ (kind : Option TextKind). or_kind kind (whole_fault old seen u.name left right))
      doubled_clear
      ∙ cond-false (length left == 0 || length right == 0) (Some EmptySide) _
      (or_from _ _ (some_pair names u.inputs good.inputs.some)
      (some_pair names u.outputs good.outputs.some))
      ∙ cond-false (is_among old u.name) (Some DoubleRates) _ fresh
      ∙ cond-false (is_beyond seen u.name) (Some TooMany) None
      (and_left (not (is_among seen u.name)) (nat_le 128 (length seen)) (ap not listed))

-- ---- exclusions

pub exclusion_clear : (names : List (List ℕ)) → Each (λ name. is_name name ≡ true) names
    → has_double names ≡ false → (e : Exclusion) → IsWellFormedExclusion (length names) e
    → IsItemLine e.name (map (name_at names) e.units)
    → (old : List (List ℕ)) → is_among old e.name ≡ false → length old < 64
    → exclusion_fault old (exclusion_text names e) (head_of (exclusion_text names e))
    (items_of (exclusion_text names e)) ≡ None
exclusion_clear names each distinct_names e good line old fresh few =
    let text : List ℕ = exclusion_text names e in
    let items : List (List ℕ) = map (name_at names) e.units in
    let count : length items ≡ length e.units = length-map e.units (name_at names) in
    let many : 2 ≤ length e.units = good.enough in
    let within : Each (λ k. k < length names) e.units =
    rising_within (length names) 0 e.units good.rising in
    let named : Each (λ item. is_name item ≡ true) items =
    each-map (λ item. is_name item ≡ true) (name_at names) e.units
    (each-to (λ k. k < length names) (λ k. is_name (name_at names k) ≡ true)
    (λ k lt. name_at_each (λ name. is_name name ≡ true) names k each lt) e.units within) in
    let long : list_any (λ item. length item == 0) items ≡ false =
    none_from_each (λ item. length item == 0) items
    (each-to (λ item. is_name item ≡ true) (λ item. (length item == 0) ≡ false)
    (λ item is. piece_long item (word_piece item (name_word item is))) items named) in
    ap (λ (name : List ℕ). exclusion_fault old text name (items_of text)) line.head
    ∙ ap (exclusion_fault old text e.name) line.apart
    ∙ cond-false (not (list_any is_colon text) || list_any (λ item. length item == 0) items)
    (Some BadLine) _ (or_from _ _ (ap not line.colon) long)
    ∙ cond-false (not (is_name e.name) || list_any (λ item. not (is_name item)) items)
    (Some BadName) _
    (or_from _ _ (ap not good.named)
    (none_from_each (λ item. not (is_name item)) items
    (each-to (λ item. is_name item ≡ true) (λ item. not (is_name item) ≡ false)
    (λ item is. ap not is) items named)))
    ∙ cond-false (nat_le 64 (length old)) (Some TooMany) _ (lt-leb 64 (length old) few)
    ∙ cond-false (is_among old e.name) (Some DoubleExclusion) _ fresh
    ∙ cond-false (has_double items) (Some DoubleMember) _
    (double_numbers names distinct_names e.units within
    (rising_double (length names) 0 e.units good.rising))
    ∙ cond-false (nat_lt (length items) 2) (Some FewMembers) None
    (le-ltb (length items) 2 (omega arith))
