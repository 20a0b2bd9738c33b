-- Materials, units and their sides that are read without a fault are well formed.
use Rattle.std.proofs.Common.{◌≡◌, ◌<◌, ◌+◌, ◌&&◌, ◌||◌, ◌==◌, Bool, true, false, not, nat_lt, ℕ}
use Rattle.std.proofs.Common.{zero, suc, List, [], ◌∷◌, ◌++◌, length, map, codes, bytes_eq, find}
use Rattle.std.proofs.Common.{position, Option, Some, None, unwrap_or, pos, int_lt, refl, sym, ◌∙◌}
use Rattle.std.proofs.Common.{ap, subst, arith, if◌then◌else◌, lt-ltb, ne_eqb}
use Rattle.std.specs.List.{list_any, position_or_len}
use Rattle.std.proofs.lemmas.Bool.{cond-true, or_parts, or_from, true≢false, not-false}
use Rattle.std.proofs.lemmas.List.{length-map}
use Rattle.std.proofs.lemmas.List.Sums.{passes_at_first}
use Rattle.std.proofs.lemmas.Slice.Eq.{bytes_eq-Decides}
use Rattle.text_rules.specs.problem_rules.Names.{is_name, is_among, has_double}
use Rattle.text_rules.specs.problem_rules.Problem.{Term, numbers_of}
use Rattle.text_rules.specs.problem_rules.Validity.{shares_material}
use Rattle.text_rules.specs.problem_rules.WellFormed.{IsWellFormedMaterial, IsWellFormedTerm}
use Rattle.text_rules.specs.problem_rules.WellFormed.{IsWellFormedSide}
use Rattle.text_rules.specs.problem_rules.WellFormed.{IsWellFormedUnit}
use Rattle.text_rules.specs.problem_rules.Each.{Each}
use Rattle.text_rules.specs.declared.TextKind.TheVariants.{Negative, ZeroRate}
use Rattle.text_rules.specs.Field.{for_material, for_unit}
use Rattle.text_rules.specs.Term.{Pair}
use Rattle.text_rules.specs.Fault.{millionths, names_of, rate_stands}
use Rattle.text_rules.specs.Value.{settings_from, much, material_from, unit_from, term_from}
use Rattle.text_rules.specs.Value.{both_from, is_material_turned, is_unit_turned, has_unknown}
use Rattle.text_rules.specs.Canonical.{name_at}
use Rattle.text_laws.proofs.Numbers.{has_number, has_double_number, repeats_same, shares_none}
use Rattle.text_laws.proofs.Each.{each-to, each-map, each-both, each-unmap, none_each}
use Rattle.text_laws.proofs.NoKind.{NoRatesFault}
use Rattle.text_laws.proofs.ReadFields.{range_of, IsAllowed, bound_at, range_at, zero_bound}
use Rattle.text_laws.proofs.ReadFields.{much_bound}

-- ---- sides

-- the number of a name that is among the names
abbrev number_in : List (List ℕ) → List ℕ → ℕ
number_in names text = unwrap_or (position (λ name. bytes_eq name text) names) 0

place_small : (names : List (List ℕ)) (x : List ℕ) → is_among names x ≡ true
    → position_or_len (λ name. bytes_eq name x) names < length names
place_small [] x is = absurd (true≢false (sym is))
place_small (name ∷ names) x is = at (bytes_eq name x) is (place_small names x) where
  at : (b : Bool) → (b || is_among names x) ≡ true
      → (is_among names x ≡ true → position_or_len (λ name. bytes_eq name x) names < length names)
      → (if not b then 1 + position_or_len (λ name. bytes_eq name x) names else 0)
      < suc (length names)
  at true is rest = omega arith
  at false is rest = omega (arith, rest is)

abbrev IsPositive : Pair → Type 0
IsPositive term = int_lt (pos 0) (millionths (term.0)) ≡ true

above_zero : (below above : Bool) → below ≡ false → (not below && not above) ≡ false → above ≡ true
above_zero true above one two = absurd (true≢false one)
above_zero false true one two = refl
above_zero false false one two = absurd (true≢false two)

each_front : {A : Type 0} (P : A → Type 0) (xs ys : List A) → Each P (xs ++ ys) → Each P xs
    × Each P ys
each_front P [] ys each = (tt, each)
each_front P (x ∷ xs) ys each = let rest = each_front P xs ys each.1 in ((each.0, rest.0), rest.1)

-- the sides of a unit
pub record AreSides (materials : ℕ) (both : List Term × List Term) : Type 0 where
  pub inputs : IsWellFormedSide materials (both.0)
  pub outputs : IsWellFormedSide materials (both.1)
  pub apart : shares_material (both.0) (both.1) ≡ false

module _ (names : List (List ℕ)) where
  abbrev Known : List Pair → Type 0
  Known terms = Each (λ name. is_among names name ≡ true) (names_of terms)

  abbrev numbers : List Pair → List ℕ
  numbers terms = numbers_of (map (term_from names) terms)

  number_found : (x : List ℕ) → is_among names x ≡ true → (number_in names x < length names)
      × (name_at names (number_in names x) ≡ x)
  number_found x is =
      let place : ℕ = position_or_len (λ name. bytes_eq name x) names in
      let small : place < length names = place_small names x is in
      let same : number_in names x ≡ place =
      ap (λ (o : Option ℕ). unwrap_or o 0)
      (cond-true (nat_lt place (length names)) (Some place) None
      (lt-ltb place (length names) small)) in (
        subst (λ n. n < length names) (sym same) small,
        ap (name_at names) same
            ∙ (bytes_eq-Decides (name_at names place) x).0
            (passes_at_first (λ name. bytes_eq name x) names [] small),
      )

  -- different names have different numbers
  numbers_none : (terms : List Pair) (x : List ℕ) → Known terms → is_among names x ≡ true
      → is_among (names_of terms) x ≡ false → has_number (number_in names x) (numbers terms) ≡ false
  numbers_none [] x each is none = refl
  numbers_none (term ∷ terms) x each is none =
      let parts = or_parts (bytes_eq (term.1) x) (is_among (names_of terms) x) none in
      or_from (number_in names (term.1) == number_in names x)
      (has_number (number_in names x) (numbers terms))
      (ne_eqb (number_in names (term.1)) (number_in names x) (λ e.
      let same : term.1 ≡ x = sym (number_found (term.1) each.0).1 ∙ ap (name_at names) e
      ∙ (number_found x is).1 in
      true≢false (sym ((bytes_eq-Decides (term.1) x).1 same) ∙ parts.0)))
      (numbers_none terms x each.1 is parts.1)

  numbers_once : (terms : List Pair) → Known terms → has_double (names_of terms) ≡ false
      → has_double_number (numbers terms) ≡ false
  numbers_once [] each none = refl
  numbers_once (term ∷ terms) each none =
      let parts =
      or_parts (is_among (names_of terms) (term.1)) (has_double (names_of terms)) none in
      or_from (has_number (number_in names (term.1)) (numbers terms))
      (has_double_number (numbers terms)) (numbers_none terms (term.1) each.1 each.0 parts.0)
      (numbers_once terms each.1 parts.1)

  numbers_apart : (outs ins : List Pair) → Known outs → Known ins
      → list_any (is_among (names_of outs)) (names_of ins) ≡ false
      → list_any (λ n. has_number n (numbers outs)) (numbers ins) ≡ false
  numbers_apart outs [] known each none = refl
  numbers_apart outs (term ∷ ins) known each none =
      let parts =
      or_parts (is_among (names_of outs) (term.1))
      (list_any (is_among (names_of outs)) (names_of ins)) none in
      or_from (has_number (number_in names (term.1)) (numbers outs))
      (list_any (λ n. has_number n (numbers outs)) (numbers ins))
      (numbers_none outs (term.1) known each.0 parts.0)
      (numbers_apart outs ins known each.1 parts.1)

  side_good : (terms : List Pair) → (length terms == 0) ≡ false → Known terms
      → Each IsPositive terms → has_double (names_of terms) ≡ false
      → IsWellFormedSide (length names) (map (term_from names) terms)
  side_good terms some known positive once = record {
    some = omega (arith, length-map terms (term_from names), long (length terms) some);
    terms_formed = each-map (IsWellFormedTerm (length names)) (term_from names) terms
        (each-both (λ term. is_among names (term.1) ≡ true) IsPositive
        (λ term. IsWellFormedTerm (length names) (term_from names term))
        (λ term is above. record {
          known = (number_found (term.1) is).0;
          in_range =
              range_of (term.0);
          positive = above;
        }) terms
        (each-unmap _ (λ (term : Pair). term.1) terms known) positive);
    once = repeats_same (map (term_from names) terms) ∙ numbers_once terms known once;
  } where
    long : (n : ℕ) → (n == 0) ≡ false → 0 < n
    long zero e = absurd (true≢false e)
    long (suc n) e = omega arith

  pub sides_good : (old seen : List (List ℕ)) (name : List ℕ) (both : List Pair × List Pair)
      → NoRatesFault old seen name (both.0) (both.1) → has_unknown names both ≡ false
      → AreSides (length names) (both_from names both)
  sides_good old seen name both fine none =
      let terms : List Pair = both.0 ++ both.1 in
      let positive = each_front IsPositive (both.0) (both.1)
      (each-both _ _ IsPositive
      (λ term one two. above_zero (int_lt (millionths (term.0)) (pos 0))
      (int_lt (pos 0) (millionths (term.0))) one two) terms
      (none_each (rate_stands Negative) terms fine.not_negative)
      (none_each (rate_stands ZeroRate) terms fine.not_zero)) in
      let unknown = or_parts _ _ none in
      let known : (side : List Pair)
      → list_any (λ name. not (is_among names name)) (names_of side) ≡ false → Known side =
      λ side none. each-to _ (λ name. is_among names name ≡ true)
      (λ name e. not-false (is_among names name) e) (names_of side)
      (none_each (λ name. not (is_among names name)) (names_of side) none) in
      let some = or_parts (length (both.0) == 0) (length (both.1) == 0) fine.some in
      let once =
      or_parts (has_double (names_of (both.0))) (has_double (names_of (both.1))) fine.once in
      record {
        inputs = side_good (both.0) some.0 (known (both.0) unknown.0) positive.0 once.0;
        outputs = side_good (both.1) some.1 (known (both.1) unknown.1) positive.1 once.1;
        apart =
            shares_none (map (term_from names) (both.0)) (map (term_from names) (both.1))
            (numbers_apart (both.1) (both.0) (known (both.1) unknown.1) (known (both.0) unknown.0)
            fine.apart);
      }

-- what is true of each item that may have the name is true of the one that is found
pub find_named : {A : Type 0} (P : Option A → Type 0) (f : A → List ℕ) (xs : List A) (name : List ℕ)
    → Each (λ x. P (Some x)) xs → is_among (map f xs) name ≡ true
    → P (find (λ x. bytes_eq (f x) name) xs)
find_named P f [] name each is = absurd (true≢false (sym is))
find_named P f (x ∷ xs) name each is =
    at (bytes_eq (f x) name) is (find_named P f xs name each.1) where
      at : (b : Bool) → (b || is_among (map f xs) name) ≡ true
          → (is_among (map f xs) name ≡ true → P (find (λ x. bytes_eq (f x) name) xs))
          → P (if b then Some x else find (λ x. bytes_eq (f x) name) xs)
      at true is rest = each.0
      at false is rest = rest is

-- ---- materials and units

module _ (defaults : List (List ℕ × List ℕ)) (given : Each IsAllowed defaults) where
  pub material_good : (name : List ℕ) (fields : List (List ℕ × List ℕ)) → is_name name ≡ true
      → Each IsAllowed fields → is_material_turned (settings_from defaults) fields ≡ false
      → IsWellFormedMaterial (material_from (settings_from defaults) name fields)
  material_good name fields named each order = record {
    named = named;
    price_in_range =
        range_at defaults fields (codes "price") (for_material (codes "price")) (pos 0)
        zero_bound.in_range;
    bounds = record {
      lower_bound =
          bound_at defaults fields (codes "flow_rate_lower_bound")
          (for_material (codes "flow_rate_lower_bound")) (pos 0) given each (refl, refl)
          (refl, refl) zero_bound;
      upper_bound =
          bound_at defaults fields (codes "flow_rate_upper_bound")
          (for_material (codes "flow_rate_upper_bound")) much given each (refl, refl) (refl, refl)
          much_bound;
      ordered = order;
    };
  }

  pub unit_good : (materials : ℕ) (name : List ℕ) (fields : List (List ℕ × List ℕ))
      (both : List Term × List Term) → is_name name ≡ true → Each IsAllowed fields
      → is_unit_turned (settings_from defaults) fields ≡ false → AreSides materials both
      → IsWellFormedUnit materials
      (unit_from (settings_from defaults) name fields (both.0) (both.1))
  unit_good materials name fields both named each order sides = record {
    named = named;
    bounds = record {
      lower_bound =
          bound_at defaults fields (codes "capacity_lower_bound")
          (for_unit (codes "capacity_lower_bound")) (pos 0) given each (refl, refl) (refl, refl)
          zero_bound;
      upper_bound =
          bound_at defaults fields (codes "capacity_upper_bound")
          (for_unit (codes "capacity_upper_bound")) much given each (refl, refl) (refl, refl)
          much_bound;
      ordered = order;
    };
    fix =
        bound_at defaults fields (codes "fix_cost") (for_unit (codes "fix_cost")) (pos 0) given each
        (refl, refl) (refl, refl) zero_bound;
    proportional =
        range_at defaults fields (codes "proportional_cost") (for_unit (codes "proportional_cost"))
        (pos 0) zero_bound.in_range;
    investment_fix =
        bound_at defaults fields (codes "investment_fix_cost")
        (for_unit (codes "investment_fix_cost")) (pos 0) given each (refl, refl) (refl, refl)
        zero_bound;
    investment_proportional =
        range_at defaults fields (codes "investment_proportional_cost")
        (for_unit (codes "investment_proportional_cost")) (pos 0) zero_bound.in_range;
    inputs = sides.inputs;
    outputs = sides.outputs;
    sides_apart = sides.apart;
  }
