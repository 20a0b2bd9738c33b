-- The canonical text of a well formed problem reads as that problem.
use Rattle.std.proofs.Common.{◌≡◌, ◌<◌, ◌+◌, ◌/◌, ◌==◌, ◌&&◌, true, false, not, ℕ, List, [], ◌∷◌}
use Rattle.std.proofs.Common.{◌++◌, length, map, filter, bytes_eq, find, Option, Some, None, Ok}
use Rattle.std.proofs.Common.{Err, Result, ℤ, pos, negsuc, int_lt, unsigned_abs, refl, sym, ◌∙◌, ap}
use Rattle.std.proofs.Common.{arith, eqb-true, append-nil, mul-div_cancel}
use Rattle.std.specs.List.{list_any}
use Rattle.std.specs.Result.{result_unwrap_or}
use Rattle.std.proofs.lemmas.Bool.{cond_both, cond-true, cond-false, and_left, or_from, or_left}
use Rattle.std.proofs.lemmas.Bool.{true≢false}
use Rattle.text_rules.specs.problem_rules.Names.{is_among}
use Rattle.text_rules.specs.problem_rules.Problem.{Material, Term, OperatingUnit, Exclusion}
use Rattle.text_rules.specs.problem_rules.Problem.{Problem}
use Rattle.text_rules.specs.problem_rules.Problem.{material_names, unit_names}
use Rattle.text_rules.specs.problem_rules.Each.{Each}
use Rattle.text_rules.specs.problem_rules.WellFormed.{IsWellFormed, IsWellFormedMaterial}
use Rattle.text_rules.specs.problem_rules.WellFormed.{IsWellFormedUnit}
use Rattle.text_rules.specs.problem_rules.WellFormed.{IsWellFormedExclusion, IsWellFormedTerm}
use Rattle.text_rules.specs.declared.TextKind.{TextKind}
use Rattle.text_rules.specs.declared.TextKind.TheVariants.{NoProduct, LowAboveHigh, UnknownMaterial}
use Rattle.text_rules.specs.declared.TextKind.TheVariants.{NoRates, UnknownUnit}
use Rattle.text_rules.specs.declared.Section.{Section}
use Rattle.text_rules.specs.declared.Section.TheVariants.{Defaults, Materials, OperatingUnits}
use Rattle.text_rules.specs.declared.Section.TheVariants.{Rates, Exclusions}
use Rattle.text_rules.specs.Line.{Placed, head_of, lines_at, heads_at, meant_of}
use Rattle.text_rules.specs.Field.{key_of, value_of, items_of, payout_period}
use Rattle.text_rules.specs.Term.{Pair, pairs_at}
use Rattle.text_rules.specs.Fault.{Fault, fault_or, file_type, names_of}
use Rattle.text_rules.specs.Value.{Settings, Names, fields_at, settings_from, settings_of}
use Rattle.text_rules.specs.Value.{number_at, material_from, materials_from, both_from, sides_or}
use Rattle.text_rules.specs.Value.{sides_named, listed_unit, unit_from, bare_unit, bare_lines}
use Rattle.text_rules.specs.Value.{units_from, unit_names_from, exclusion_named, exclusions_from}
use Rattle.text_rules.specs.Value.{payout_from, problem_from, names_all, is_material_turned}
use Rattle.text_rules.specs.Value.{is_unit_turned, has_unknown, is_unit, entry_meaning}
use Rattle.text_rules.specs.Value.{first_meaning, has_product, with_product, or_first, meaning_at}
use Rattle.text_rules.specs.Value.{read_lines, read_text}
use Rattle.text_rules.specs.Canonical.{name_at, canonical}
use Rattle.text_laws.proofs.Each.{each-to, each-map, none_from_each, each-both, each-unmap}
use Rattle.text_laws.proofs.CanonicalParts.{Part, payout_part, parts_of, spelled, entries, meant}
use Rattle.text_laws.proofs.CanonicalParts.{past, first_number, parts_at, payout_text}
use Rattle.text_laws.proofs.CanonicalParts.{material_text, unit_text, rates_text, exclusion_text}
use Rattle.text_laws.proofs.CanonicalParts.{IsItemLine, IsRatesLine, material_line, unit_line}
use Rattle.text_laws.proofs.CanonicalParts.{rates_line, exclusion_line, names_of_materials}
use Rattle.text_laws.proofs.CanonicalParts.{names_of_units, units_named, exclusions_named}
use Rattle.text_laws.proofs.CanonicalParts.{canonical_read, canonical_meant}
use Rattle.text_laws.proofs.Numbers.{rising_within}
use Rattle.text_laws.proofs.Names.{among_self}
use Rattle.text_laws.proofs.PrintedItems.{name_at_each}
use Rattle.text_laws.proofs.ItemLines.{payout_amount}
use Rattle.text_laws.proofs.RatesLines.{pair, pairs_back}
use Rattle.text_laws.proofs.NoFormFault.{no_form_fault}
use Rattle.text_laws.proofs.Found.{entries_read, IsFound, each_found, none_apart, terms_back}
use Rattle.text_laws.proofs.Found.{members_back}
use Rattle.text_laws.proofs.ItemsBack.{built_in, material_back, unit_back}

positive_is : (z : ℤ) → int_lt (pos 0) z ≡ true → pos (unsigned_abs z) ≡ z
positive_is (pos n) lt = refl
positive_is (negsuc n) lt = absurd (true≢false (sym lt))

same : {A : Type 0} (xs : List A) → map (λ x. x) xs ≡ xs
same [] = refl
same {A} (x ∷ xs) = ap (λ (ys : List A). x ∷ ys) (same xs)

-- the entries of a section have no fault of meaning
meaning_clear : (s : Settings) (names : Names) (section : Section) (n : ℕ) (texts : List (List ℕ))
    (rest : List Placed) → Each (λ text. entry_meaning s names section text ≡ None) texts
    → first_meaning s names rest ≡ None
    → first_meaning s names (entries section n texts ++ rest) ≡ None
meaning_clear s names section n [] rest each behind = behind
meaning_clear s names section n (text ∷ texts) rest each behind =
    ap (λ (kind : Option TextKind). fault_or n kind
    (first_meaning s names (entries section (n + 1) texts ++ rest))) each.0
    ∙ meaning_clear s names section (n + 1) texts rest each.1 behind

parts_clear : (s : Settings) (names : Names) (n : ℕ) (parts : List Part)
    → Each (λ part. Each (λ text. entry_meaning s names part.section text ≡ None) part.texts) parts
    → first_meaning s names (meant n parts) ≡ None
parts_clear s names n [] each = refl
parts_clear s names n (part ∷ parts) each =
    let k : ℕ = first_number n part in
    meaning_clear s names part.section k part.texts (meant (past k part.texts) parts) each.0
    (parts_clear s names (past k part.texts) parts each.1)

abbrev head_in : Placed → List ℕ
head_in line = head_of line.text

module _ (p : Problem) (is : IsWellFormed p) where
  abbrev ms : List (List ℕ)
  ms = material_names p.materials

  abbrev us : List (List ℕ)
  us = unit_names p.units

  -- the lines that have a meaning, and those of each section
  abbrev L : List Placed
  L = meant 2 (parts_of p)

  abbrev IsIn : Section → List (List ℕ) → Type 0
  IsIn section texts = (n : ℕ) × (lines_at section L ≡ entries section n texts)

  defaults_in : IsIn Defaults (payout_part p).texts
  defaults_in = (_, parts_at Defaults 2 (parts_of p) ∙ append-nil _)

  materials_in : IsIn Materials (map material_text p.materials)
  materials_in = (_, parts_at Materials 2 (parts_of p) ∙ append-nil _)

  units_in : IsIn OperatingUnits (map unit_text p.units)
  units_in = (_, parts_at OperatingUnits 2 (parts_of p) ∙ append-nil _)

  rates_in : IsIn Rates (map (rates_text ms) p.units)
  rates_in = (_, parts_at Rates 2 (parts_of p) ∙ append-nil _)

  exclusions_in : IsIn Exclusions (map (exclusion_text us) p.exclusions)
  exclusions_in = (_, parts_at Exclusions 2 (parts_of p) ∙ append-nil _)

  -- the lines of rates and exclusions
  rates_is : (u : OperatingUnit) → IsWellFormedUnit (length ms) u → IsRatesLine ms u
  rates_is u good = rates_line ms (names_of_materials p is) u good

  exclusion_is : (e : Exclusion) → IsWellFormedExclusion (length us) e
      → IsItemLine e.name (map (name_at us) e.units)
  exclusion_is e good = exclusion_line us (names_of_units p is) e good

  -- ---- defaults: the payout alone

  abbrev field_in : Placed → List ℕ × List ℕ
  field_in line = (key_of line.text, value_of line.text)

  settings_are : settings_of L ≡ built_in
  settings_are =
      ap (λ (lines : List Placed). settings_from (map field_in lines)) defaults_in.1
      ∙ cond_both (unsigned_abs p.payout == 1) [] (payout_text (unsigned_abs p.payout) ∷ [])
      (λ texts. settings_from (map field_in (entries Defaults defaults_in.0 texts)) ≡ built_in)
      (λ e. refl) (λ e. refl)

  payout_is : payout_from L ≡ p.payout
  payout_is =
      let k : ℕ = unsigned_abs p.payout in
      let years : List Placed → ℤ =
      λ lines. pos
      (unsigned_abs (number_at payout_period (map field_in lines) (pos 1000000)) / 1000000) in
      ap years defaults_in.1
      ∙ cond_both (k == 1) [] (payout_text k ∷ [])
      (λ texts. years (entries Defaults defaults_in.0 texts) ≡ p.payout)
      (λ e. ap pos (sym (eqb-true k 1 e)) ∙ positive_is p.payout is.payout_positive)
      (λ e. ap
      (λ (a : Result ℤ TextKind). pos (unsigned_abs (result_unwrap_or a (pos 0)) / 1000000))
      (payout_amount k is.payout_limit) ∙ ap pos (mul-div_cancel k (omega arith))
      ∙ positive_is p.payout is.payout_positive)

  -- ---- names

  material_heads : heads_at Materials L ≡ ms
  material_heads = ap (map head_in) materials_in.1
      ∙ entries_read Materials material_text head_of (λ (m : Material). m.name) materials_in.0
      p.materials
      (each-to IsWellFormedMaterial (λ m. head_of (material_text m) ≡ m.name)
      (λ m good. (material_line m good).head) p.materials is.materials_formed)

  unit_heads : heads_at OperatingUnits L ≡ us
  unit_heads = ap (map head_in) units_in.1
      ∙ entries_read OperatingUnits unit_text head_of (λ (u : OperatingUnit). u.name) units_in.0
      p.units
      (each-to (IsWellFormedUnit (length ms)) (λ u. head_of (unit_text u) ≡ u.name)
      (λ u good. (unit_line (length ms) u good).head) p.units (units_named p is))

  rates_named : Each (λ u. head_of (rates_text ms u) ≡ u.name) p.units
  rates_named =
      each-to (IsWellFormedUnit (length ms)) (λ u. head_of (rates_text ms u) ≡ u.name)
      (λ u good. (rates_is u good).head) p.units (units_named p is)

  rates_heads : heads_at Rates L ≡ us
  rates_heads = ap (map head_in) rates_in.1
      ∙ entries_read Rates (rates_text ms) head_of (λ (u : OperatingUnit). u.name) rates_in.0
      p.units rates_named

  listed : Each (λ u. is_among us u.name ≡ true) p.units
  listed =
      each-unmap (λ name. is_among us name ≡ true) (λ (u : OperatingUnit). u.name) p.units
      (among_self us)

  no_bare : bare_lines (heads_at OperatingUnits L) L ≡ []
  no_bare =
      ap (λ (names : List (List ℕ)). bare_lines names L) unit_heads
      ∙ ap (filter (λ (line : Placed). not (is_among us (head_of line.text)))) rates_in.1
      ∙ none_apart Rates (rates_text ms) (λ (u : OperatingUnit). u.name) us rates_in.0 p.units
      rates_named listed

  all_names : unit_names_from L ≡ us
  all_names =
      ap (λ (names : List (List ℕ)). names
      ++ map head_in (bare_lines (heads_at OperatingUnits L) L)) unit_heads
      ∙ ap (λ (lines : List Placed). us ++ map head_in lines) no_bare ∙ append-nil us

  -- ---- values

  materials_are : materials_from (settings_of L) L ≡ p.materials
  materials_are =
      ap (λ (s : Settings). materials_from s L) settings_are
      ∙ ap
      (map
      (λ (line : Placed). material_from built_in (head_of line.text) (fields_at line.text)))
      materials_in.1
      ∙ entries_read Materials material_text
      (λ text. material_from built_in (head_of text) (fields_at text)) (λ m. m) materials_in.0
      p.materials
      (each-to IsWellFormedMaterial
      (λ m. material_from built_in (head_of (material_text m)) (fields_at (material_text m))
      ≡ m) (λ m good. material_back m good (material_line m good)) p.materials
      is.materials_formed)
      ∙ same p.materials

  sides_are : Each (λ u. sides_named ms L u.name ≡ (u.inputs, u.outputs)) p.units
  sides_are =
      each-both (IsWellFormedUnit (length ms))
      (IsFound Rates (rates_text ms) (λ (u : OperatingUnit). u.name)
      (entries Rates rates_in.0 (map (rates_text ms) p.units)))
      (λ u. sides_named ms L u.name ≡ (u.inputs, u.outputs))
      (λ u good found.
      ap (λ (lines : List Placed). sides_or ms
      (find (λ (line : Placed). bytes_eq (head_of line.text) u.name) lines)) rates_in.1
      ∙ ap (sides_or ms) found.1
      ∙ ap (both_from ms) (pairs_back ms u (rates_is u good))
      ∙ ap (λ (terms : List Term). let both : List Term × List Term =
      (terms, (both_from ms (map (pair ms) u.inputs, map (pair ms) u.outputs)).1) in both)
      (terms_back ms is.materials_apart u.inputs good.inputs.terms_formed)
      ∙ ap (λ (terms : List Term). let both : List Term × List Term = (u.inputs, terms) in both)
      (terms_back ms is.materials_apart u.outputs good.outputs.terms_formed))
      p.units (units_named p is)
      (each_found Rates (rates_text ms) (λ (u : OperatingUnit). u.name) rates_in.0 p.units
      rates_named is.units_apart)

  units_back : Each (λ u. listed_unit built_in ms L (unit_text u) ≡ u) p.units
  units_back =
      each-both (IsWellFormedUnit (length ms))
      (λ u. sides_named ms L u.name ≡ (u.inputs, u.outputs))
      (λ u. listed_unit built_in ms L (unit_text u) ≡ u)
      (λ u good sides.
      ap (λ (both : List Term × List Term). unit_from built_in (head_of (unit_text u))
      (fields_at (unit_text u)) both.0 both.1)
      (ap (sides_named ms L) (unit_line (length ms) u good).head ∙ sides)
      ∙ unit_back (length ms) u good (unit_line (length ms) u good))
      p.units (units_named p is) sides_are

  units_are : units_from (settings_of L) (heads_at Materials L) L ≡ p.units
  units_are =
      let bare : List Placed → List OperatingUnit =
      map (λ (line : Placed). bare_unit built_in ms L line.text) in
      ap (λ (s : Settings). units_from s (heads_at Materials L) L) settings_are
      ∙ ap (λ (names : List (List ℕ)). units_from built_in names L) material_heads
      ∙ ap
      (λ (lines : List Placed). map (λ (line : Placed). listed_unit built_in ms L line.text)
      lines ++ bare (bare_lines (heads_at OperatingUnits L) L)) units_in.1
      ∙ ap (λ (all : List OperatingUnit). all ++ bare (bare_lines (heads_at OperatingUnits L) L))
      (entries_read OperatingUnits unit_text (listed_unit built_in ms L) (λ u. u) units_in.0
      p.units units_back ∙ same p.units)
      ∙ ap (λ (lines : List Placed). p.units ++ bare lines) no_bare
      ∙ append-nil p.units

  exclusions_are : exclusions_from (unit_names_from L) L ≡ p.exclusions
  exclusions_are =
      ap (λ (names : List (List ℕ)). exclusions_from names L) all_names
      ∙ ap (map (λ (line : Placed). exclusion_named us (head_of line.text) (items_of line.text)))
      exclusions_in.1
      ∙ entries_read Exclusions (exclusion_text us)
      (λ text. exclusion_named us (head_of text) (items_of text)) (λ e. e) exclusions_in.0
      p.exclusions
      (each-to (IsWellFormedExclusion (length us))
      (λ e. exclusion_named us (head_of (exclusion_text us e)) (items_of (exclusion_text us e))
      ≡ e)
      (λ e good.
      ap (λ (name : List ℕ). exclusion_named us name (items_of (exclusion_text us e)))
      (exclusion_is e good).head
      ∙ ap (exclusion_named us e.name) (exclusion_is e good).apart
      ∙ ap (λ (ks : List ℕ). let made : Exclusion = record { name = e.name; units = ks } in made)
      (members_back us e.units is.units_apart good.rising))
      p.exclusions (exclusions_named p is))
      ∙ same p.exclusions

  -- the lines stand for the problem
  problem_is : problem_from L ≡ p
  problem_is =
      let make : List Material → List OperatingUnit → List Exclusion → ℤ → Problem =
      λ one two three z. record {
        materials = one;
        units = two;
        exclusions = three;
        payout =
            z;
      } in
      ap (λ (one : List Material). make one (problem_from L).units (problem_from L).exclusions
      (payout_from L)) materials_are
      ∙ ap
      (λ (two : List OperatingUnit). make p.materials two (problem_from L).exclusions
      (payout_from L)) units_are
      ∙ ap (λ (three : List Exclusion). make p.materials p.units three (payout_from L))
      exclusions_are
      ∙ ap (make p.materials p.units p.exclusions) payout_is

  -- ---- no fault of meaning

  abbrev names : Names
  names = record { materials = ms; units = us; rates = us }

  abbrev IsMeant : Section → List ℕ → Type 0
  IsMeant section text = entry_meaning built_in names section text ≡ None

  names_are : names_all L ≡ names
  names_are =
      let make : List (List ℕ) → List (List ℕ) → List (List ℕ) → Names =
      λ one two three. record { materials = one; units = two; rates = three } in
      ap (λ (one : List (List ℕ)). make one (heads_at OperatingUnits L) (heads_at Rates L))
      material_heads
      ∙ ap (λ (two : List (List ℕ)). make ms two (heads_at Rates L)) unit_heads
      ∙ ap (make ms us) rates_heads

  materials_meant : Each (IsMeant Materials) (map material_text p.materials)
  materials_meant =
      each-map (IsMeant Materials) material_text p.materials
      (each-to IsWellFormedMaterial (λ m. IsMeant Materials (material_text m))
      (λ m good. cond-false (is_material_turned built_in (fields_at (material_text m)))
      (Some LowAboveHigh) None
      (ap (λ (e : Material). int_lt e.upper e.lower)
      (material_back m good (material_line m good)) ∙ good.bounds.ordered))
      p.materials is.materials_formed)

  units_meant : Each (IsMeant OperatingUnits) (map unit_text p.units)
  units_meant =
      each-map (IsMeant OperatingUnits) unit_text p.units
      (each-both (IsWellFormedUnit (length ms)) (λ u. is_among us u.name ≡ true)
      (λ u. IsMeant OperatingUnits (unit_text u))
      (λ u good among.
      cond-false (is_unit_turned built_in (fields_at (unit_text u))) (Some LowAboveHigh) _
      (ap (λ (e : OperatingUnit). int_lt e.upper e.lower)
      (unit_back (length ms) u good (unit_line (length ms) u good)) ∙ good.bounds.ordered)
      ∙ cond-true (is_among us (head_of (unit_text u))) None (Some NoRates)
      (ap (is_among us) (unit_line (length ms) u good).head ∙ among))
      p.units (units_named p is) listed)

  known : (terms : List Term) → Each (IsWellFormedTerm (length ms)) terms
      → list_any (λ name. not (is_among ms name)) (names_of (map (pair ms) terms)) ≡ false
  known terms goods =
      none_from_each (λ name. not (is_among ms name)) (names_of (map (pair ms) terms))
      (each-map (λ name. not (is_among ms name) ≡ false) (λ (one : Pair). one.1)
      (map (pair ms) terms)
      (each-map (λ (one : Pair). not (is_among ms one.1) ≡ false) (pair ms) terms
      (each-to (IsWellFormedTerm (length ms))
      (λ t. not (is_among ms (name_at ms t.material)) ≡ false)
      (λ t good. ap not
      (name_at_each (λ name. is_among ms name ≡ true) ms t.material (among_self ms) good.known))
      terms goods)))

  rates_meant : Each (IsMeant Rates) (map (rates_text ms) p.units)
  rates_meant =
      each-map (IsMeant Rates) (rates_text ms) p.units
      (each-both (IsWellFormedUnit (length ms)) (λ u. is_among us u.name ≡ true)
      (λ u. IsMeant Rates (rates_text ms u))
      (λ u good among.
      cond-false (not (is_among us (head_of (rates_text ms u))) && is_unit_turned built_in [])
      (Some LowAboveHigh) _
      (and_left _ _ (ap (λ (name : List ℕ). not (is_among us name)) (rates_is u good).head
      ∙ ap not among))
      ∙ cond-false (has_unknown ms (pairs_at (rates_text ms u))) (Some UnknownMaterial) None
      (ap (has_unknown ms) (pairs_back ms u (rates_is u good))
      ∙ or_from _ _ (known u.inputs good.inputs.terms_formed)
      (known u.outputs good.outputs.terms_formed)))
      p.units (units_named p is) listed)

  exclusions_meant : Each (IsMeant Exclusions) (map (exclusion_text us) p.exclusions)
  exclusions_meant =
      each-map (IsMeant Exclusions) (exclusion_text us) p.exclusions
      (each-to (IsWellFormedExclusion (length us)) (λ e. IsMeant Exclusions (exclusion_text us e))
      (λ e good. cond-false
      (list_any (λ item. not (is_unit names item)) (items_of (exclusion_text us e)))
      (Some UnknownUnit) None
      (ap (list_any (λ item. not (is_unit names item))) (exclusion_is e good).apart
      ∙ none_from_each (λ item. not (is_unit names item)) (map (name_at us) e.units)
      (each-map (λ item. not (is_unit names item) ≡ false) (name_at us) e.units
      (each-to (λ k. k < length us) (λ k. not (is_unit names (name_at us k)) ≡ false)
      (λ k lt. ap not
      (or_left (is_among us (name_at us k)) (is_among us (name_at us k))
      (name_at_each (λ name. is_among us name ≡ true) us k (among_self us) lt))) e.units
      (rising_within (length us) 0 e.units good.rising)))))
      p.exclusions (exclusions_named p is))

  no_meaning_fault : first_meaning (settings_of L) (names_all L) L ≡ None
  no_meaning_fault =
      let defaults_meant : Each (IsMeant Defaults) (payout_part p).texts =
      cond_both (unsigned_abs p.payout == 1) [] (payout_text (unsigned_abs p.payout) ∷ [])
      (λ texts. Each (IsMeant Defaults) texts) (λ e. tt) (λ e. (refl, tt)) in
      ap (λ (s : Settings). first_meaning s (names_all L) L) settings_are
      ∙ ap (λ (all : Names). first_meaning built_in all L) names_are
      ∙ parts_clear built_in names 2 (parts_of p)
      (defaults_meant, (materials_meant, (units_meant, (rates_meant, (exclusions_meant, tt)))))

  -- the canonical text of a well formed problem reads as that problem
  pub canonical_reads : read_text (canonical p) ≡ Ok p
  canonical_reads =
      let texts : List (List ℕ) = file_type ∷ spelled (parts_of p) in
      let number : ℕ = length texts + 1 in
      ap read_lines (canonical_read p is)
      ∙ ap (λ (fault : Option Fault). or_first fault (meaning_at (meant_of texts) number))
      (no_form_fault p is)
      ∙ ap (λ (lines : List Placed). meaning_at lines number) (canonical_meant p is)
      ∙ ap (λ (fault : Option Fault). or_first fault (with_product number (problem_from L)))
      no_meaning_fault
      ∙ ap (with_product number) problem_is
      ∙ cond-true (has_product p.materials) (Ok p) (Err (number, NoProduct)) is.with_product
