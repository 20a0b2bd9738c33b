-- What a text without a fault stands for is a well formed problem.
use Rattle.std.proofs.Common.{◌≡◌, ◌<◌, ◌≤◌, ⊎_elim, ◌+◌, ◌/◌, ◌%◌, ◌&&◌, ◌||◌, ◌==◌, Bool, true}
use Rattle.std.proofs.Common.{false, not, nat_le, ℕ, List, [], ◌∷◌, ◌++◌, length, map, filter}
use Rattle.std.proofs.Common.{Option, Some, None, Result, Ok, Err, ℤ, pos, negsuc, int_lt}
use Rattle.std.proofs.Common.{unsigned_abs, refl, sym, ◌∙◌, ap, subst, arith, if◌then◌else◌}
use Rattle.std.proofs.Common.{lt-ltb}
use Rattle.std.proofs.Common.{leb-true, ltb-true, eqb-true}
use Rattle.std.specs.List.{list_any}
use Rattle.std.specs.Str.{bytes_eq}
use Rattle.std.proofs.lemmas.Bool.{and_parts, and_from, or_parts, or_cases, true≢false, not-true}
use Rattle.std.proofs.lemmas.Bool.{not-false}
use Rattle.std.proofs.lemmas.List.{length-map}
use Rattle.std.proofs.lemmas.List.Folds.{list_any-append}
use Rattle.std.proofs.lemmas.Slice.Eq.{bytes_eq-Decides}
use mathlib.Core.List.{map-append, map-map}
use Rattle.text_rules.specs.problem_rules.Names.{is_name, is_among, has_double}
use Rattle.text_rules.specs.problem_rules.Problem.{Material, OperatingUnit, Exclusion, Problem}
use Rattle.text_rules.specs.problem_rules.Problem.{material_names}
use Rattle.text_rules.specs.problem_rules.Problem.{unit_names, exclusion_names}
use Rattle.text_rules.specs.problem_rules.WellFormed.{IsWellFormedMaterial, IsWellFormedUnit}
use Rattle.text_rules.specs.problem_rules.WellFormed.{IsWellFormedExclusion, IsWellFormed}
use Rattle.text_rules.specs.problem_rules.Each.{Each}
use Rattle.text_rules.specs.declared.TextKind.TheVariants.{FileType, NoProduct, NoRates}
use Rattle.text_rules.specs.declared.Section.{Section}
use Rattle.text_rules.specs.declared.Section.TheVariants.{Defaults, Materials, OperatingUnits}
use Rattle.text_rules.specs.declared.Section.TheVariants.{Rates, Exclusions}
use Rattle.text_rules.specs.Line.{Placed, lines_of, body_of, matters, meant_of, head_of, lines_at}
use Rattle.text_rules.specs.Line.{heads_at}
use Rattle.text_rules.specs.Field.{items_of, payout_period}
use Rattle.text_rules.specs.Term.{pairs_at}
use Rattle.text_rules.specs.Fault.{Fault, seen_none, first_fault, first_is_type, form_fault}
use Rattle.text_rules.specs.Fault.{is_payout}
use Rattle.text_rules.specs.Value.{Settings, settings_of, names_all, default_fields, fields_at}
use Rattle.text_rules.specs.Value.{number_at, is_material_turned, is_unit_turned, has_unknown}
use Rattle.text_rules.specs.Value.{is_unit, both_from, sides_or, sides_named, material_from}
use Rattle.text_rules.specs.Value.{materials_from, listed_unit, bare_unit, bare_lines, units_from}
use Rattle.text_rules.specs.Value.{unit_names_from, exclusion_named, exclusions_from}
use Rattle.text_rules.specs.Value.{problem_from}
use Rattle.text_rules.specs.Value.{first_meaning, line_meaning, has_product, with_product}
use Rattle.text_rules.specs.Value.{or_first}
use Rattle.text_rules.specs.Value.{meaning_at, read_text}
use Rattle.text_laws.proofs.Each.{each-to, each-map, each-append, each-both, each-unmap}
use Rattle.text_laws.proofs.Names.{among_self}
use Rattle.text_laws.proofs.NoKind.{IsFormed, IsClear, formed_each, meant_each, clear_at}
use Rattle.text_laws.proofs.NoKind.{each_filter, if_none, known_none, NoDefaultFault}
use Rattle.text_laws.proofs.NoKind.{no_default_fault, no_material_fault, no_unit_fault}
use Rattle.text_laws.proofs.NoKind.{no_rates_fault, no_exclusion_fault}
use Rattle.text_laws.proofs.ReadFields.{IsAllowed, items_allowed, defaults_allowed, payout_good}
use Rattle.text_laws.proofs.ReadItems.{AreSides, sides_good, find_named, material_good, unit_good}
use Rattle.text_laws.proofs.ReadCounts.{AreGoodNames, good_names, among_filter, double_filter}
use Rattle.text_laws.proofs.ReadCounts.{double_append, no_longer, members_rise, members_many}

filter_map : {A B : Type 0} (q : B → Bool) (f : A → B) (xs : List A)
    → map f (filter (λ x. q (f x)) xs) ≡ filter q (map f xs)
filter_map q f [] = refl
filter_map {A} {B} q f (x ∷ xs) = at (q (f x)) (filter_map q f xs) where
  at : (b : Bool) → map f (filter (λ x. q (f x)) xs) ≡ filter q (map f xs)
      → map f (if b then x ∷ filter (λ x. q (f x)) xs else filter (λ x. q (f x)) xs)
      ≡ (if b then f x ∷ filter q (map f xs) else filter q (map f xs))
  at true same = ap (λ (ys : List B). f x ∷ ys) same
  at false same = same

payout_range : (z : ℤ) → is_payout z ≡ true
    → (int_lt (pos 0) (pos (unsigned_abs z / 1000000)) ≡ true) × (unsigned_abs z / 1000000 ≤ 100)
payout_range (pos n) is =
    let parts = and_parts _ (nat_le n 100000000) is in
    let low = and_parts (int_lt (pos 0) (pos n)) (n % 1000000 == 0) parts.0 in
    let some : 0 < n = ltb-true 0 n low.0 in
    let whole : n % 1000000 ≡ 0 = eqb-true (n % 1000000) 0 low.1 in
    let small : n ≤ 100000000 = leb-true n 100000000 parts.1 in
    (lt-ltb 0 (n / 1000000) (omega arith), omega arith)
payout_range (negsuc n) is = absurd (true≢false (sym is))

abbrev name_of : Placed → List ℕ
name_of line = head_of line.text

module _ (lines : List Placed) (all : List (List ℕ))
    (names : AreGoodNames (heads_at Materials lines) (heads_at OperatingUnits lines)
    (heads_at Rates lines) (heads_at Exclusions lines) all)
    (clear : Each (λ line. IsFormed line
    × (line_meaning (settings_of lines) (names_all lines) line ≡ None)) lines) where
  abbrev s : Settings
  s = settings_of lines

  abbrev materials : List (List ℕ)
  materials = heads_at Materials lines

  abbrev units : List (List ℕ)
  units = heads_at OperatingUnits lines

  abbrev rates : List (List ℕ)
  rates = heads_at Rates lines

  abbrev At : Section → Placed → Type 0
  At section line = IsClear s (names_all lines) section line.text

  at : (section : Section) → Each (At section) (lines_at section lines)
  at section = clear_at s (names_all lines) section lines clear

  -- ---- defaults and materials

  defaults : Each (λ line. NoDefaultFault line.text) (lines_at Defaults lines)
  defaults =
      each-to (At Defaults) (λ line. NoDefaultFault line.text)
      (λ line is. no_default_fault is.0.0.keys line.text is.0.1) (lines_at Defaults lines)
      (at Defaults)

  given : Each IsAllowed (default_fields lines)
  given = defaults_allowed lines defaults

  materials_good : Each IsWellFormedMaterial (materials_from s lines)
  materials_good =
      each-map IsWellFormedMaterial
      (λ (line : Placed). material_from s (name_of line) (fields_at line.text))
      (lines_at Materials lines)
      (each-to (At Materials)
      (λ line. IsWellFormedMaterial (material_from s (name_of line) (fields_at line.text)))
      (λ line is.
      let fine = no_material_fault is.0.0.materials (name_of line) (items_of line.text) is.0.1 in
      material_good (default_fields lines) given (name_of line) (fields_at line.text) fine.named
      (items_allowed (items_of line.text) fine.values)
      (if_none (is_material_turned s (fields_at line.text)) _ _ is.1).0)
      (lines_at Materials lines) (at Materials))

  -- ---- rates and units

  record IsRates (line : Placed) : Type 0 where
    pub named : is_name (name_of line) ≡ true
    pub listed : is_among rates (name_of line) ≡ true
    pub ordered : (not (is_among units (name_of line)) && is_unit_turned s []) ≡ false
    pub sides : AreSides (length materials) (both_from materials (pairs_at line.text))

  rates_good : Each IsRates (lines_at Rates lines)
  rates_good =
      each-both (At Rates) (λ line. is_among rates (name_of line) ≡ true) IsRates
      (λ line is listed.
      let fine = no_rates_fault is.0.0.rates is.0.0.unit_names (name_of line) line.text is.0.1 in
      let ordered =
      if_none (not (is_among units (name_of line)) && is_unit_turned s []) _ _ is.1 in
      let known = if_none (has_unknown materials (pairs_at line.text)) _ _ ordered.1 in
      record {
        named = fine.named;
        listed = listed;
        ordered = ordered.0;
        sides =
            sides_good materials is.0.0.rates is.0.0.unit_names (name_of line)
            (pairs_at line.text)
            fine known.0;
      })
      (lines_at Rates lines) (at Rates)
      (each-unmap (λ name. is_among rates name ≡ true) name_of (lines_at Rates lines)
      (among_self rates))

  sides_of : (name : List ℕ) → is_among rates name ≡ true
      → AreSides (length materials) (sides_named materials lines name)
  sides_of name listed =
      find_named (λ line. AreSides (length materials) (sides_or materials line)) name_of
      (lines_at Rates lines) name
      (each-to IsRates
      (λ line. AreSides (length materials) (both_from materials (pairs_at line.text)))
      (λ line is. is.sides) (lines_at Rates lines) rates_good) listed

  own_good : (line : Placed) → At OperatingUnits line
      → IsWellFormedUnit (length materials) (listed_unit s materials lines line.text)
  own_good line is =
      let fine =
      no_unit_fault is.0.0.units is.0.0.unit_names (name_of line) (items_of line.text) is.0.1 in
      let ordered = if_none (is_unit_turned s (fields_at line.text)) _ _ is.1 in
      unit_good (default_fields lines) given (length materials) (name_of line)
      (fields_at line.text)
      (sides_named materials lines (name_of line)) fine.named
      (items_allowed (items_of line.text) fine.values) ordered.0
      (sides_of (name_of line) (known_none (is_among rates (name_of line)) NoRates ordered.1))

  bare_good : (line : Placed) → (not (is_among units (name_of line)) ≡ true) × IsRates line
      → IsWellFormedUnit (length materials) (bare_unit s materials lines line.text)
  bare_good line is =
      unit_good (default_fields lines) given (length materials) (name_of line) []
      (sides_named materials lines (name_of line)) is.1.named tt
      (ap (λ b. b && is_unit_turned s []) (sym is.0) ∙ is.1.ordered)
      (sides_of (name_of line) is.1.listed)

  units_good : Each (IsWellFormedUnit (length materials)) (units_from s materials lines)
  units_good =
      each-append (IsWellFormedUnit (length materials))
      (map (λ (line : Placed). listed_unit s materials lines line.text)
      (lines_at OperatingUnits lines))
      (map (λ (line : Placed). bare_unit s materials lines line.text) (bare_lines units lines))
      (each-map (IsWellFormedUnit (length materials))
      (λ (line : Placed). listed_unit s materials lines line.text)
      (lines_at OperatingUnits lines)
      (each-to (At OperatingUnits) _ own_good (lines_at OperatingUnits lines)
      (at OperatingUnits)))
      (each-map (IsWellFormedUnit (length materials))
      (λ (line : Placed). bare_unit s materials lines line.text) (bare_lines units lines)
      (each-to _ _ bare_good (bare_lines units lines)
      (each_filter IsRates (λ line. not (is_among units (name_of line))) (lines_at Rates lines)
      rates_good)))

  -- ---- the names of units

  abbrev is_bare : List ℕ → Bool
  is_bare name = not (is_among units name)

  names_same : unit_names_from lines ≡ units ++ filter is_bare rates
  names_same =
      ap (λ (names : List (List ℕ)). units ++ names)
      (filter_map is_bare name_of (lines_at Rates lines))

  units_once : has_double (units ++ filter is_bare rates) ≡ false
  units_once =
      double_append units (filter is_bare rates) names.held_units.once
      (double_filter is_bare rates names.held_rates.once)
      (each-to _ (λ name. is_among units name ≡ false)
      (λ name is. not-true (is_among units name) is.0) (filter is_bare rates)
      (each_filter _ is_bare rates (among_self rates)))

  few_units_read : length (units ++ filter is_bare rates) ≤ 128
  few_units_read =
      let most : length (units ++ filter is_bare rates) ≤ length all =
      no_longer (units ++ filter is_bare rates) all units_once (λ name is.
      ⊎_elim (λ (own : is_among units name ≡ true). names.held_units.held name own)
      (λ (bare : is_among (filter is_bare rates) name ≡ true). names.held_rates.held name
      (and_parts (is_bare name) (is_among rates name)
      (sym (among_filter is_bare rates name) ∙ bare)).1)
      (or_cases (is_among units name) (is_among (filter is_bare rates) name)
      (sym (list_any-append (λ word. bytes_eq word name) units (filter is_bare rates))
      ∙ is))) in
      omega (arith, most, names.few)

  names_read : unit_names (units_from s materials lines) ≡ units ++ filter is_bare rates
  names_read =
      map-append (λ (u : OperatingUnit). u.name)
      (map (λ (line : Placed). listed_unit s materials lines line.text)
      (lines_at OperatingUnits lines))
      (map (λ (line : Placed). bare_unit s materials lines line.text) (bare_lines units lines))
      ∙ (λ i. map-map (λ (u : OperatingUnit). u.name)
      (λ (line : Placed). listed_unit s materials lines line.text)
      (lines_at OperatingUnits lines) i
      ++ map-map (λ (u : OperatingUnit). u.name)
      (λ (line : Placed). bare_unit s materials lines line.text) (bare_lines units lines) i)
      ∙ names_same

  unit_count : length (units_from s materials lines) ≡ length (units ++ filter is_bare rates)
  unit_count = sym (length-map (units_from s materials lines) (λ (u : OperatingUnit). u.name))
      ∙ ap (λ (names : List (List ℕ)). length names) names_read

  -- ---- exclusions

  unit_known : (name : List ℕ) (b : Bool) → is_among units name ≡ b
      → (b || is_among rates name) ≡ true → (b || is_among (filter is_bare rates) name) ≡ true
  unit_known name true e is = is
  unit_known name false e is = among_filter is_bare rates name
      ∙ and_from (is_bare name) (is_among rates name) (ap not e) is

  members_known : (members : List (List ℕ))
      → list_any (λ item. not (is_unit (names_all lines) item)) members ≡ false → (name : List ℕ)
      → is_among members name ≡ true → is_among (unit_names_from lines) name ≡ true
  members_known [] none name is = absurd (true≢false (sym is))
  members_known (member ∷ members) none name is =
      let parts = or_parts (not (is_unit (names_all lines) member)) _ none in
      ⊎_elim
      (λ (same : bytes_eq member name ≡ true). subst
      (λ name. is_among (unit_names_from lines) name ≡ true)
      ((bytes_eq-Decides member name).0 same)
      (ap (λ (names : List (List ℕ)). is_among names member) names_same
      ∙ list_any-append (λ word. bytes_eq word member) units (filter is_bare rates)
      ∙ unit_known member (is_among units member) refl
      (not-false (is_unit (names_all lines) member) parts.0)))
      (λ (more : is_among members name ≡ true). members_known members parts.1 name more)
      (or_cases (bytes_eq member name) (is_among members name) is)

  exclusion_good : (line : Placed) → At Exclusions line
      → IsWellFormedExclusion (length (units_from s materials lines))
      (exclusion_named (unit_names_from lines) (name_of line) (items_of line.text))
  exclusion_good line is =
      let members : List (List ℕ) = items_of line.text in
      let fine = no_exclusion_fault is.0.0.exclusions line.text (name_of line) members is.0.1 in
      let known =
      if_none (list_any (λ item. not (is_unit (names_all lines) item)) members) _ _ is.1 in
      let enough : 2 ≤ length members = fine.enough in
      record {
        named = fine.named;
        enough =
            omega (
              arith,
              members_many members (unit_names_from lines) fine.once
                  (members_known members known.0),
            );
        rising =
            members_rise members 0 (length (units_from s materials lines)) (unit_names_from lines)
            (omega (arith, unit_count, ap (λ (names : List (List ℕ)). length names) names_same));
      }

  -- ---- the problem

  pub problem_good : has_product (problem_from lines).materials ≡ true
      → IsWellFormed (problem_from lines)
  problem_good some_product =
      let years =
      payout_range (number_at payout_period (default_fields lines) (pos 1000000))
      (payout_good lines defaults) in
      let materials_same : material_names (materials_from s lines) ≡ materials =
      map-map (λ (m : Material). m.name)
      (λ (line : Placed). material_from s (name_of line) (fields_at line.text))
      (lines_at Materials lines) in
      let exclusions_same : exclusion_names (exclusions_from (unit_names_from lines) lines)
      ≡ heads_at Exclusions lines =
      map-map (λ (e : Exclusion). e.name)
      (λ (line : Placed). exclusion_named (unit_names_from lines) (name_of line)
      (items_of line.text)) (lines_at Exclusions lines) in
      let material_count : length materials ≡ length (materials_from s lines) =
      ap (λ (names : List (List ℕ)). length names) (sym materials_same)
      ∙ length-map (materials_from s lines) (λ (m : Material). m.name) in
      let exclusion_count : length (heads_at Exclusions lines)
      ≡ length (exclusions_from (unit_names_from lines) lines) =
      ap (λ (names : List (List ℕ)). length names) (sym exclusions_same)
      ∙ length-map (exclusions_from (unit_names_from lines) lines)
      (λ (e : Exclusion). e.name) in
      record {
        few_materials = subst (λ n. n ≤ 256) material_count names.few_materials.few;
        few_units = subst (λ n. n ≤ 128) (sym unit_count) few_units_read;
        few_exclusions = subst (λ n. n ≤ 64) exclusion_count names.few_exclusions.few;
        materials_formed = materials_good;
        units_formed =
            subst (λ n. Each (IsWellFormedUnit n) (units_from s materials lines)) material_count
            units_good;
        exclusions_formed =
            each-map (IsWellFormedExclusion (length (units_from s materials lines)))
            (λ (line : Placed). exclusion_named (unit_names_from lines) (name_of line)
            (items_of line.text)) (lines_at Exclusions lines)
            (each-to (At Exclusions) _ exclusion_good (lines_at Exclusions lines)
            (at Exclusions));
        materials_apart = ap has_double materials_same ∙ names.few_materials.once;
        units_apart = ap has_double names_read ∙ units_once;
        exclusions_apart = ap has_double exclusions_same ∙ names.few_exclusions.once;
        with_product = some_product;
        payout_positive = years.0;
        payout_limit = years.1;
      }

-- ---- texts

typed : (b : Bool) (fault : Option Fault) → (if b then fault else Some (1, FileType)) ≡ None
    → fault ≡ None
typed true fault e = e
typed false fault e = cc

first_none : (fault : Option Fault) (rest : Result Problem Fault) (p : Problem)
    → or_first fault rest ≡ Ok p → (fault ≡ None) × (rest ≡ Ok p)
first_none (Some fault) rest p e = cc
first_none None rest p e = (refl, e)

product_read : (b : Bool) (number : ℕ) (read p : Problem) → let made : Result Problem Fault =
    Ok read in (if b then made else Err (number, NoProduct)) ≡ Ok p → (b ≡ true) × (read ≡ p)
product_read true number read p e = (refl, cc)
product_read false number read p e = cc

-- what a text without a fault stands for is well formed
pub read_is_well_formed : (bytes : List ℕ) (p : Problem) → read_text bytes ≡ Ok p → IsWellFormed p
read_is_well_formed bytes p e =
    let texts : List (List ℕ) = lines_of bytes in
    let lines : List Placed = meant_of texts in
    let form = first_none (form_fault texts) (meaning_at lines (length texts + 1)) p e in
    let none : first_fault seen_none (body_of texts) ≡ None =
    typed (first_is_type texts) (first_fault seen_none (body_of texts)) form.0 in
    let mean =
    first_none (first_meaning (settings_of lines) (names_all lines) lines)
    (with_product (length texts + 1) (problem_from lines)) p form.1 in
    let read =
    product_read (has_product (problem_from lines).materials) (length texts + 1)
    (problem_from lines) p mean.1 in
    let names = good_names seen_none (body_of texts) none (record {
      few_materials = record { few = omega arith; once = refl };
      few_exclusions = record { few = omega arith; once = refl };
      held_units = record { once = refl; held = λ x is. absurd (true≢false (sym is)) };
      held_rates = record { once = refl; held = λ x is. absurd (true≢false (sym is)) };
      few = omega arith;
    }) in
    let formed : Each IsFormed lines =
    each-to _ IsFormed (λ line is. is.1) lines
    (each_filter IsFormed matters (body_of texts)
    (formed_each seen_none (body_of texts) none)) in
    let clear =
    each-both IsFormed (λ line. line_meaning (settings_of lines) (names_all lines) line ≡ None)
    _ (λ line one two. (one, two)) lines formed
    (meant_each (settings_of lines) (names_all lines) lines mean.0) in
    subst IsWellFormed read.1 (problem_good lines names.0 names.1 clear read.0)
