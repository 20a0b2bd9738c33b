-- A canonical text has no fault of form.
use Rattle.std.proofs.Common.{◌≡◌, ◌≤◌, ◌<◌, ◌+◌, ◌==◌, true, false, ℕ, List, [], ◌∷◌, ◌++◌, length}
use Rattle.std.proofs.Common.{map, codes, Option, Some, None, ℤ, pos, negsuc, int_lt, unsigned_abs}
use Rattle.std.proofs.Common.{refl, sym, ◌∙◌, ap, subst, arith, ltb-true, length-append}
use Rattle.std.proofs.Common.{append_assoc, append-nil, if◌then◌else◌}
use Rattle.std.proofs.lemmas.Bool.{cond_both, cond-true, cond-false, or_parts}
use Rattle.text_rules.specs.problem_rules.Names.{is_among, has_double}
use Rattle.text_rules.specs.problem_rules.Problem.{Material, OperatingUnit, Exclusion, Problem}
use Rattle.text_rules.specs.problem_rules.Problem.{material_names}
use Rattle.text_rules.specs.problem_rules.Problem.{unit_names, exclusion_names}
use Rattle.text_rules.specs.problem_rules.Each.{Each}
use Rattle.text_rules.specs.problem_rules.WellFormed.{IsWellFormed, IsWellFormedMaterial}
use Rattle.text_rules.specs.problem_rules.WellFormed.{IsWellFormedUnit}
use Rattle.text_rules.specs.problem_rules.WellFormed.{IsWellFormedExclusion}
use Rattle.text_rules.specs.declared.TextKind.{TextKind}
use Rattle.text_rules.specs.declared.TextKind.TheVariants.{DoubleSection}
use Rattle.text_rules.specs.declared.Section.{Section}
use Rattle.text_rules.specs.declared.Section.TheVariants.{Defaults, Materials, OperatingUnits}
use Rattle.text_rules.specs.declared.Section.TheVariants.{Rates, Exclusions}
use Rattle.text_rules.specs.Line.{Placed}
use Rattle.text_rules.specs.Fault.{Seen, seen_none, with_name, first_fault, line_fault, seen_after}
use Rattle.text_rules.specs.Fault.{file_type, form_fault}
use Rattle.text_rules.specs.Canonical.{name_at}
use Rattle.text_laws.proofs.Each.{each-to, each-both, each-unmap}
use Rattle.text_laws.proofs.CanonicalParts.{header_at, placed_at, entries, past, first_number}
use Rattle.text_laws.proofs.CanonicalParts.{shown, laid, spelled, material_part, unit_part}
use Rattle.text_laws.proofs.CanonicalParts.{rates_part, exclusion_part, parts_of, canonical_laid}
use Rattle.text_laws.proofs.CanonicalParts.{payout_text, material_text, unit_text, rates_text}
use Rattle.text_laws.proofs.CanonicalParts.{exclusion_text, IsItemLine, IsRatesLine, material_line}
use Rattle.text_laws.proofs.CanonicalParts.{unit_line, rates_line, exclusion_line, units_named}
use Rattle.text_laws.proofs.CanonicalParts.{exclusions_named, names_of_materials, names_of_units}
use Rattle.text_laws.proofs.Names.{Fresh, fresh-last, fresh-nil, among_self}
use Rattle.text_laws.proofs.Clear.{first_clear}
use Rattle.text_laws.proofs.ItemLines.{material_clear, unit_clear, payout_clear}
use Rattle.text_laws.proofs.RatesLines.{rates_clear, exclusion_clear}

abbrev seen_of : (headers keys materials units rates exclusions names : List (List ℕ)) → Seen
seen_of headers keys materials units rates exclusions names =
    record {
      headers = headers;
      keys = keys;
      materials = materials;
      units = units;
      rates =
          rates;
      exclusions = exclusions;
      unit_names = names;
    }

-- entries with names of their own in a section
module _ {A : Type 0} (section : Section) (text name : A → List ℕ) (state : List (List ℕ) → Seen)
    (most : ℕ) where
  -- an entry whose name is new has no fault, and then its name counts as seen
  abbrev IsClear : A → Type 0
  IsClear x = (old : List (List ℕ)) (n : ℕ) → is_among old (name x) ≡ false → length old < most
      → (line_fault (state old) (placed_at n section (text x)) ≡ None)
      × (seen_after (state old) (placed_at n section (text x)) ≡ state (old ++ name x ∷ []))

  walk : (old : List (List ℕ)) (n : ℕ) (xs : List A) (rest : List Placed) → Each IsClear xs
      → has_double (map name xs) ≡ false → Fresh old (map name xs) → length old + length xs ≤ most
      → first_fault (state (old ++ map name xs)) rest ≡ None
      → first_fault (state old) (entries section n (map text xs) ++ rest) ≡ None
  walk old n [] rest each off fresh few behind =
      subst (λ (names : List (List ℕ)). first_fault (state names) rest ≡ None) (append-nil old)
      behind
  walk old n (x ∷ xs) rest each off fresh few behind =
      let parts : (is_among (map name xs) (name x) ≡ false) × (has_double (map name xs) ≡ false) =
      or_parts (is_among (map name xs) (name x)) (has_double (map name xs)) off in
      let longer : length (old ++ name x ∷ []) ≡ length old + 1 = length-append old (name x ∷ []) in
      let lines : List Placed = entries section (n + 1) (map text xs) ++ rest in
      let here : (line_fault (state old) (placed_at n section (text x)) ≡ None)
      × (seen_after (state old) (placed_at n section (text x)) ≡ state (old ++ name x ∷ [])) =
      each.0 old n fresh.0 (omega arith) in
      first_clear (state old) (placed_at n section (text x)) lines here.0
      (subst (λ (seen : Seen). first_fault seen lines ≡ None) (sym here.1)
      (walk (old ++ name x ∷ []) (n + 1) xs rest each.1 parts.1
      (fresh-last old (name x) (map name xs) parts.0 fresh.1) (omega (arith, longer))
      (subst (λ (names : List (List ℕ)). first_fault (state names) rest ≡ None)
      (sym (append_assoc old (name x ∷ []) (map name xs))) behind)))

-- a header that is new
new_header : (headers : List (List ℕ)) (name : List ℕ) → is_among headers name ≡ false
    → (let kind : Option TextKind = if is_among headers name then Some DoubleSection else None in
    kind) ≡ None
new_header headers name new = cond-false (is_among headers name) (Some DoubleSection) None new

abbrev with_header : List (List ℕ) → List ℕ → List (List ℕ)
with_header headers name = headers ++ name ∷ []

module _ (p : Problem) (is : IsWellFormed p) where
  abbrev ms : List (List ℕ)
  ms = material_names p.materials

  abbrev us : List (List ℕ)
  us = unit_names p.units

  listed : Each (λ u. is_among us u.name ≡ true) p.units
  listed =
      each-unmap (λ name. is_among us name ≡ true) (λ (u : OperatingUnit). u.name) p.units
      (among_self us)

  module _ (h0 keys : List (List ℕ)) (h1 : is_among h0 (codes "materials") ≡ false)
      (h2 : is_among (with_header h0 (codes "materials")) (codes "operating_units") ≡ false)
      (h3 : is_among (with_header (with_header h0 (codes "materials")) (codes "operating_units"))
      (codes "material_to_operating_unit_flow_rates") ≡ false)
      (h4 : is_among
      (with_header (with_header (with_header h0 (codes "materials")) (codes "operating_units"))
      (codes "material_to_operating_unit_flow_rates")) (codes "mutual_exclusions")
      ≡ false) where
    abbrev m_headers : List (List ℕ)
    m_headers = with_header h0 (codes "materials")

    abbrev u_headers : List (List ℕ)
    u_headers = with_header m_headers (codes "operating_units")

    abbrev r_headers : List (List ℕ)
    r_headers = with_header u_headers (codes "material_to_operating_unit_flow_rates")

    -- what was seen, by the names of the section
    abbrev m_seen : List (List ℕ) → Seen
    m_seen old = seen_of m_headers keys old [] [] [] []

    abbrev u_seen : List (List ℕ) → Seen
    u_seen old = seen_of u_headers keys ms old [] [] old

    abbrev r_seen : List (List ℕ) → Seen
    r_seen old = seen_of r_headers keys ms us old [] us

    abbrev e_seen : List (List ℕ) → List (List ℕ) → Seen
    e_seen headers old = seen_of headers keys ms us us old us

    materials_fit : Each (IsClear Materials material_text (λ (m : Material). m.name) m_seen 256)
        p.materials
    materials_fit =
        each-to IsWellFormedMaterial
        (IsClear Materials material_text (λ (m : Material). m.name) m_seen 256)
        (λ m good old n fresh few. (
          material_clear old m good fresh few,
          ap (λ (name : List ℕ). m_seen (old ++ name ∷ [])) (material_line m good).head,
        ))
        p.materials is.materials_formed

    units_fit : Each (IsClear OperatingUnits unit_text (λ (u : OperatingUnit). u.name) u_seen 128)
        p.units
    units_fit =
        each-to (IsWellFormedUnit (length ms))
        (IsClear OperatingUnits unit_text (λ (u : OperatingUnit). u.name) u_seen 128)
        (λ u good old n fresh few. (
          unit_clear old (length ms) u good fresh few,
          ap (λ (name : List ℕ). seen_of u_headers keys ms (old ++ name ∷ []) [] []
              (with_name old name)) (unit_line (length ms) u good).head
              ∙ ap (seen_of u_headers keys ms (old ++ u.name ∷ []) [] [])
              (cond-false (is_among old u.name) old (old ++ u.name ∷ []) fresh),
        ))
        p.units (units_named p is)

    rates_fit : Each (IsClear Rates (rates_text ms) (λ (u : OperatingUnit). u.name) r_seen 128)
        p.units
    rates_fit =
        each-both (IsWellFormedUnit (length ms)) (λ u. is_among us u.name ≡ true)
        (IsClear Rates (rates_text ms) (λ (u : OperatingUnit). u.name) r_seen 128)
        (λ u good among old n fresh few.
        let line : IsRatesLine ms u = rates_line ms (names_of_materials p is) u good in (
          rates_clear ms (names_of_materials p is) is.materials_apart u good old us fresh among
              line,
          ap (λ (name : List ℕ). seen_of r_headers keys ms us (old ++ name ∷ []) []
              (with_name us name)) line.head
              ∙ ap (seen_of r_headers keys ms us (old ++ u.name ∷ []) [])
              (cond-true (is_among us u.name) us (us ++ u.name ∷ []) among),
        ))
        p.units (units_named p is) listed

    exclusions_fit : (headers : List (List ℕ))
        → Each
        (IsClear Exclusions (exclusion_text us) (λ (e : Exclusion). e.name) (e_seen headers) 64)
        p.exclusions
    exclusions_fit headers =
        each-to (IsWellFormedExclusion (length us))
        (IsClear Exclusions (exclusion_text us) (λ (e : Exclusion). e.name) (e_seen headers) 64)
        (λ e good old n fresh few.
        let line : IsItemLine e.name (map (name_at us) e.units) =
        exclusion_line us (names_of_units p is) e good in (
          exclusion_clear us (names_of_units p is) is.units_apart e good line old fresh few,
          ap (λ (name : List ℕ). e_seen headers (old ++ name ∷ [])) line.head,
        ))
        p.exclusions (exclusions_named p is)

    exclusions_clear : (n : ℕ)
        → first_fault (e_seen r_headers []) (laid n (exclusion_part p ∷ [])) ≡ None
    exclusions_clear n =
        let lines : List Placed =
        entries Exclusions (first_number n (exclusion_part p)) (exclusion_part p).texts ++ [] in
        let clear : (headers : List (List ℕ)) → first_fault (e_seen headers []) lines ≡ None =
        λ headers. walk Exclusions (exclusion_text us) (λ (e : Exclusion). e.name) (e_seen headers)
        64 [] (first_number n (exclusion_part p)) p.exclusions [] (exclusions_fit headers)
        is.exclusions_apart (fresh-nil (exclusion_names p.exclusions))
        (omega (arith, is.few_exclusions)) refl in
        cond_both (shown (exclusion_part p)) (header_at (n + 1) Exclusions ∷ []) []
        (λ head. first_fault (e_seen r_headers []) (head ++ lines) ≡ None)
        (λ e. first_clear (e_seen r_headers []) (header_at (n + 1) Exclusions) lines
        (new_header r_headers (codes "mutual_exclusions") h4)
        (clear (with_header r_headers (codes "mutual_exclusions"))))
        (λ e. clear r_headers)

    sections_clear : (n : ℕ)
        → first_fault (seen_of h0 keys [] [] [] [] [])
        (laid n (material_part p ∷ unit_part p ∷ rates_part p ∷ exclusion_part p ∷ [])) ≡ None
    sections_clear n =
        let u : ℕ = past (n + 1 + 1) (material_part p).texts in
        let r : ℕ = past (u + 1 + 1) (unit_part p).texts in
        let x : ℕ = past (r + 1 + 1) (rates_part p).texts in
        let last : List Placed = laid x (exclusion_part p ∷ []) in
        let third : List Placed = laid r (rates_part p ∷ exclusion_part p ∷ []) in
        let second : List Placed = laid u (unit_part p ∷ rates_part p ∷ exclusion_part p ∷ []) in
        first_clear (seen_of h0 keys [] [] [] [] []) (header_at (n + 1) Materials)
        (entries Materials (n + 1 + 1) (material_part p).texts ++ second)
        (new_header h0 (codes "materials") h1)
        (walk Materials material_text (λ (m : Material). m.name) m_seen 256 [] (n + 1 + 1)
        p.materials second materials_fit is.materials_apart (fresh-nil ms)
        (omega (arith, is.few_materials))
        (first_clear (m_seen ms) (header_at (u + 1) OperatingUnits)
        (entries OperatingUnits (u + 1 + 1) (unit_part p).texts ++ third)
        (new_header m_headers (codes "operating_units") h2)
        (walk OperatingUnits unit_text (λ (u : OperatingUnit). u.name) u_seen 128 [] (u + 1 + 1)
        p.units third units_fit is.units_apart (fresh-nil us) (omega (arith, is.few_units))
        (first_clear (u_seen us) (header_at (r + 1) Rates)
        (entries Rates (r + 1 + 1) (rates_part p).texts ++ last)
        (new_header u_headers (codes "material_to_operating_unit_flow_rates") h3)
        (walk Rates (rates_text ms) (λ (u : OperatingUnit). u.name) r_seen 128 [] (r + 1 + 1)
        p.units last rates_fit is.units_apart (fresh-nil us) (omega (arith, is.few_units))
        (exclusions_clear x))))))

  payout_some : (z : ℤ) → int_lt (pos 0) z ≡ true → 1 ≤ unsigned_abs z
  payout_some (pos n) lt = ltb-true 0 n lt
  payout_some (negsuc n) lt = omega arith

  -- the canonical text has no fault of form
  pub no_form_fault : form_fault (file_type ∷ spelled (parts_of p)) ≡ None
  no_form_fault =
      let k : ℕ = unsigned_abs p.payout in
      ap (first_fault seen_none) (canonical_laid p is)
      ∙ cond_both (k == 1) [] (payout_text k ∷ [])
      (λ texts. first_fault seen_none
      (laid 2
      (record { section = Defaults; always = false; texts = texts } ∷ material_part p
      ∷ unit_part p ∷ rates_part p ∷ exclusion_part p ∷ [])) ≡ None)
      (λ e. sections_clear [] [] refl refl refl refl 2)
      (λ e.
      let rest : List Placed =
      laid 5 (material_part p ∷ unit_part p ∷ rates_part p ∷ exclusion_part p ∷ []) in
      let line : Placed = placed_at 4 Defaults (payout_text k) in
      first_clear seen_none (header_at 3 Defaults) (line ∷ rest) refl
      (first_clear (seen_of (codes "defaults" ∷ []) [] [] [] [] [] []) line rest
      (payout_clear k (payout_some p.payout is.payout_positive) is.payout_limit)
      (sections_clear (codes "defaults" ∷ []) (codes "payout_period" ∷ []) refl refl refl refl 5)))
