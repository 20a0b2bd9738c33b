-- The lines of a canonical text: its sections, each a header and entries, and the parts of an entry
-- of each kind.
use Rattle.std.proofs.Common.{subst, ◌≡◌, ◌^◌, append-nil, ◌<◌, ◌≤◌, ◌+◌, ◌==◌, ◌||◌, ◌&&◌, Bool}
use Rattle.std.proofs.Common.{true, false, not, ℕ, List, [], ◌∷◌, ◌++◌, length, map, filter}
use Rattle.std.proofs.Common.{codes}
use Rattle.std.proofs.Common.{decimal, unsigned_abs, refl, sym, ◌∙◌, ap, arith, if◌then◌else◌}
use Rattle.std.proofs.Common.{unwrap_or}
use Rattle.std.specs.List.{list_any}
use Rattle.std.specs.Char.{is_ascii_digit}
use Rattle.std.proofs.lemmas.Bool.{cond-true, cond-false, cond_both, or_parts, true≢false}
use Rattle.std.proofs.lemmas.List.{length-map}
use Rattle.std.proofs.lemmas.Fmt.{decimal_nonempty}
use Rattle.text_rules.specs.declared.Section.{Section}
use Rattle.text_rules.specs.declared.Section.TheVariants.{Preamble, MeasurementUnits, Defaults}
use Rattle.text_rules.specs.declared.Section.TheVariants.{Materials, OperatingUnits, Rates}
use Rattle.text_rules.specs.declared.Section.TheVariants.{Exclusions}
use Rattle.text_rules.specs.problem_rules.Names.{is_name, continues_name}
use Rattle.text_rules.specs.problem_rules.Problem.{Material, OperatingUnit, Exclusion, Problem}
use Rattle.text_rules.specs.problem_rules.Problem.{material_names}
use Rattle.text_rules.specs.problem_rules.Problem.{unit_names}
use Rattle.text_rules.specs.problem_rules.Each.{Each}
use Rattle.text_rules.specs.problem_rules.WellFormed.{IsWellFormed, IsWellFormedMaterial}
use Rattle.text_rules.specs.problem_rules.WellFormed.{IsWellFormedUnit}
use Rattle.text_rules.specs.problem_rules.WellFormed.{IsWellFormedExclusion}
use Rattle.text_rules.specs.Line.{Placed, is_colon, head_of, section_named, placed_from, standing}
use Rattle.text_rules.specs.Line.{body_of, lines_of, lines_at, is_section, is_at, is_meant}
use Rattle.text_rules.specs.Line.{matters}
use Rattle.text_rules.specs.Field.{items_of, sides_of}
use Rattle.text_rules.specs.Fault.{file_type}
use Rattle.text_rules.specs.Canonical.{joined, spaced, named, item_line, field, material_items}
use Rattle.text_rules.specs.Canonical.{unit_items, name_at, term_tokens, token_text, rates_tokens}
use Rattle.text_rules.specs.Canonical.{section_lines, material_lines, unit_lines, rates_lines}
use Rattle.text_rules.specs.Canonical.{payout_lines, exclusion_section, exclusion_lines}
use Rattle.text_rules.specs.Canonical.{canonical_lines, canonical}
use Rattle.text_laws.proofs.Each.{each-append, each-map, each-to}
use Rattle.text_laws.proofs.Digits.{decimal_reads}
use Rattle.text_laws.proofs.PrintedAmount.{all_to}
use Rattle.text_laws.proofs.PrintedItems.{material_pieces, unit_pieces, member_words}
use Rattle.text_laws.proofs.PrintedLines.{IsLine, lines_read}
use Rattle.text_laws.proofs.Pieces.{IsPiece, IsEntry, IsNamed, word_piece, items_tail}
use Rattle.text_laws.proofs.Pieces.{items_apart}
use Rattle.text_laws.proofs.Pieces.{named_apart, piece_entry}
use Rattle.text_laws.proofs.PrintedSides.{rates_tail, sides_apart}
use Rattle.text_laws.proofs.Words.{IsWord, name_word, digit_continues}

-- ---- sections

-- a section with its entries; a section without any is printed only if it is one that always is
pub record Part : Type 0 where
  pub section : Section
  pub always : Bool
  pub texts : List (List ℕ)

abbrev has_some : List (List ℕ) → Bool
has_some [] = false
has_some (text ∷ texts) = true

abbrev pub shown : Part → Bool
shown part = part.always || has_some part.texts

abbrev title : Section → List ℕ
title Preamble = []
title MeasurementUnits = codes "measurement_units"
title Defaults = codes "defaults"
title Materials = codes "materials"
title OperatingUnits = codes "operating_units"
title Rates = codes "material_to_operating_unit_flow_rates"
title Exclusions = codes "mutual_exclusions"

-- the lines as they are printed
abbrev pub spelled : List Part → List (List ℕ)
spelled [] = []
spelled (part ∷ parts) =
    (if shown part then [] ∷ (title part.section ++ 58 ∷ []) ∷ [] else [])
    ++ (part.texts ++ spelled parts)

abbrev pub header_at : ℕ → Section → Placed
header_at n section =
    record { number = n; section = section; header = true; text = title section ++ 58 ∷ [] }

abbrev pub placed_at : ℕ → Section → List ℕ → Placed
placed_at n section text = record { number = n; section = section; header = false; text = text }

abbrev pub entries : Section → ℕ → List (List ℕ) → List Placed
entries section n [] = []
entries section n (text ∷ texts) = placed_at n section text ∷ entries section (n + 1) texts

-- n plus the number of lines, and the number of the first entry of a section that begins at n
abbrev pub past : ℕ → List (List ℕ) → ℕ
past n [] = n
past n (text ∷ texts) = past (n + 1) texts

abbrev pub first_number : ℕ → Part → ℕ
first_number n part = if shown part then n + 1 + 1 else n

-- the lines as they are placed, and those of them that have a meaning
abbrev pub laid : ℕ → List Part → List Placed
laid n [] = []
laid n (part ∷ parts) =
    (if shown part then header_at (n + 1) part.section ∷ [] else [])
    ++ (entries part.section (first_number n part) part.texts
    ++ laid (past (first_number n part) part.texts) parts)

abbrev pub meant : ℕ → List Part → List Placed
meant n [] = []
meant n (part ∷ parts) =
    entries part.section (first_number n part) part.texts
    ++ meant (past (first_number n part) part.texts) parts

-- and those of one section
abbrev pub picked : Section → ℕ → List Part → List Placed
picked section n [] = []
picked section n (part ∷ parts) =
    (if is_section section part.section then entries part.section (first_number n part) part.texts
    else []) ++ picked section (past (first_number n part) part.texts) parts

-- a section whose lines have a meaning
abbrev IsPart : Part → Type 0
IsPart part = (is_meant part.section ≡ true) × Each IsEntry part.texts

-- the header of a section
record IsHeader (section : Section) : Type 0 where
  line : IsLine (title section ++ 58 ∷ [])
  placed : (n : ℕ) (old : Section) (rest : List (List ℕ))
      → standing (placed_from n old ((title section ++ 58 ∷ []) ∷ rest)) ≡ header_at n section
      ∷ standing (placed_from (n + 1) section rest)

header_is : (section : Section) → is_meant section ≡ true → IsHeader section
header_is Preamble is = absurd (true≢false (sym is))
header_is MeasurementUnits is = absurd (true≢false (sym is))
header_is Defaults is =
    record {
      line = record { feed = refl; ret = refl; sign = refl; front = refl; back = refl };
      placed = λ n old rest. refl;
    }
header_is Materials is =
    record {
      line = record { feed = refl; ret = refl; sign = refl; front = refl; back = refl };
      placed = λ n old rest. refl;
    }
header_is OperatingUnits is =
    record {
      line = record { feed = refl; ret = refl; sign = refl; front = refl; back = refl };
      placed = λ n old rest. refl;
    }
header_is Rates is =
    record {
      line = record { feed = refl; ret = refl; sign = refl; front = refl; back = refl };
      placed = λ n old rest. refl;
    }
header_is Exclusions is =
    record {
      line = record { feed = refl; ret = refl; sign = refl; front = refl; back = refl };
      placed = λ n old rest. refl;
    }

entry_placed : (n : ℕ) (section : Section) (text : List ℕ) (rest : List (List ℕ)) → IsEntry text
    → standing (placed_from n section (text ∷ rest)) ≡ placed_at n section text
    ∷ standing (placed_from (n + 1) section rest)
entry_placed n section text rest is =
    ap (λ (b : Bool). let next : Section =
    if b then unwrap_or (section_named (head_of text)) section else section in
    standing (record { number = n; section = next; header = b; text = text }
    ∷ placed_from (n + 1) next rest)) is.no_header
    ∙ ap (λ (b : Bool). if not b then placed_at n section text
    ∷ standing (placed_from (n + 1) section rest) else standing
    (placed_from (n + 1) section rest)) is.long

entries_placed : (section : Section) (n : ℕ) (texts rest : List (List ℕ)) → Each IsEntry texts
    → standing (placed_from n section (texts ++ rest)) ≡ entries section n texts
    ++ standing (placed_from (past n texts) section rest)
entries_placed section n [] rest each = refl
entries_placed section n (text ∷ texts) rest each =
    entry_placed n section text (texts ++ rest) each.0
    ∙ ap (λ (lines : List Placed). placed_at n section text ∷ lines)
    (entries_placed section (n + 1) texts rest each.1)

empty_is : (texts : List (List ℕ)) → has_some texts ≡ false → texts ≡ []
empty_is [] off = refl
empty_is (text ∷ texts) off = absurd (true≢false off)

parts_placed : (n : ℕ) (old : Section) (parts : List Part) → Each IsPart parts
    → standing (placed_from n old (spelled parts)) ≡ laid n parts
parts_placed n old [] each = refl
parts_placed n old (part ∷ parts) each =
    at (shown part)
    (λ off. empty_is part.texts ((or_parts part.always (has_some part.texts) off).1))
    (λ m s. parts_placed m s parts each.1) where
      at : (b : Bool) → (b ≡ false → part.texts ≡ [])
          → ((m : ℕ) (s : Section) → standing (placed_from m s (spelled parts)) ≡ laid m parts)
          → standing
          (placed_from n old
          ((if b then [] ∷ (title part.section ++ 58 ∷ []) ∷ [] else [])
          ++ (part.texts ++ spelled parts)))
          ≡ (if b then header_at (n + 1) part.section ∷ [] else [])
          ++ (entries part.section (if b then n + 1 + 1 else n) part.texts
          ++ laid (past (if b then n + 1 + 1 else n) part.texts) parts)
      at true some behind =
          (header_is part.section each.0.0).placed (n + 1) old (part.texts ++ spelled parts)
          ∙ ap (λ (lines : List Placed). header_at (n + 1) part.section ∷ lines) (
          entries_placed part.section (n + 1 + 1) part.texts (spelled parts) each.0.1
          ∙ ap (λ (lines : List Placed). entries part.section (n + 1 + 1) part.texts ++ lines)
          (behind (past (n + 1 + 1) part.texts) part.section))
      at false none behind =
          subst (λ (texts : List (List ℕ)). standing (placed_from n old (texts ++ spelled parts))
          ≡ entries part.section n texts ++ laid (past n texts) parts) (sym (none refl))
          (behind n old)

parts_lines : (parts : List Part) → Each IsPart parts → Each IsLine (spelled parts)
parts_lines [] each = tt
parts_lines (part ∷ parts) each =
    each-append IsLine (if shown part then [] ∷ (title part.section ++ 58 ∷ []) ∷ [] else [])
    (part.texts ++ spelled parts)
    (cond_both (shown part) ([] ∷ (title part.section ++ 58 ∷ []) ∷ []) []
    (λ lines. Each IsLine lines)
    (λ e. (
      record { feed = refl; ret = refl; sign = refl; front = refl; back = refl },
      ((header_is part.section each.0.0).line, tt),
    )) (λ e. tt))
    (each-append IsLine part.texts (spelled parts)
    (each-to IsEntry IsLine (λ text is. is.line) part.texts each.0.1)
    (parts_lines parts each.1))

-- a test that gives the same answer for all entries keeps all or none
entries_kept : (test : Placed → Bool) (b : Bool) (section : Section) (n : ℕ)
    (texts : List (List ℕ))
    (rest : List Placed) → ((k : ℕ) (text : List ℕ) → test (placed_at k section text) ≡ b)
    → filter test (entries section n texts ++ rest) ≡ (if b then entries section n texts else [])
    ++ filter test rest
entries_kept test true section n [] rest says = refl
entries_kept test false section n [] rest says = refl
entries_kept test true section n (text ∷ texts) rest says =
    let others : List Placed = entries section (n + 1) texts ++ rest in
    cond-true (test (placed_at n section text)) (placed_at n section text ∷ filter test others)
    (filter test others) (says n text)
    ∙ ap (λ (lines : List Placed). placed_at n section text ∷ lines)
    (entries_kept test true section (n + 1) texts rest says)
entries_kept test false section n (text ∷ texts) rest says =
    let others : List Placed = entries section (n + 1) texts ++ rest in
    cond-false (test (placed_at n section text)) (placed_at n section text ∷ filter test others)
    (filter test others) (says n text)
    ∙ entries_kept test false section (n + 1) texts rest says

-- the lines that have a meaning, and those of a section
parts_matter : (n : ℕ) (parts : List Part) → Each IsPart parts
    → filter matters (laid n parts) ≡ meant n parts
parts_matter n [] each = refl
parts_matter n (part ∷ parts) each =
    let rest : List Placed = laid (past (first_number n part) part.texts) parts in
    let own : List Placed = entries part.section (first_number n part) part.texts in
    cond_both (shown part) (header_at (n + 1) part.section ∷ []) []
    (λ head. filter matters (head ++ (own ++ rest)) ≡ filter matters (own ++ rest)) (λ e. refl)
    (λ e. refl)
    ∙ entries_kept matters true part.section (first_number n part) part.texts rest
    (λ k text. each.0.0)
    ∙ ap (λ (lines : List Placed). own ++ lines)
    (parts_matter (past (first_number n part) part.texts) parts each.1)

and_true : (b : Bool) → (b && true) ≡ b
and_true true = refl
and_true false = refl

pub parts_at : (section : Section) (n : ℕ) (parts : List Part)
    → lines_at section (meant n parts) ≡ picked section n parts
parts_at section n [] = refl
parts_at section n (part ∷ parts) =
    let own : List Placed = entries part.section (first_number n part) part.texts in
    let b : Bool = is_section section part.section in
    entries_kept (is_at section) b part.section (first_number n part) part.texts
    (meant (past (first_number n part) part.texts) parts) (λ k text. and_true b)
    ∙ ap (λ (lines : List Placed). (if b then own else []) ++ lines)
    (parts_at section (past (first_number n part) part.texts) parts)

-- ---- entries

abbrev pub payout_text : ℕ → List ℕ
payout_text k = field (codes "payout_period") (decimal k)

abbrev pub material_text : Material → List ℕ
material_text m = item_line m.name (material_items m)

abbrev pub unit_text : OperatingUnit → List ℕ
unit_text u = item_line u.name (unit_items u)

abbrev pub rates_text : List (List ℕ) → OperatingUnit → List ℕ
rates_text names u = named u.name (token_text (rates_tokens names u))

abbrev pub exclusion_text : List (List ℕ) → Exclusion → List ℕ
exclusion_text names e = item_line e.name (map (name_at names) e.units)

-- a name and items
pub record IsItemLine (name : List ℕ) (items : List (List ℕ)) : Type 0 where
  pub entry : IsEntry (item_line name items)
  pub colon : list_any is_colon (item_line name items) ≡ true
  pub head : head_of (item_line name items) ≡ name
  pub apart : items_of (item_line name items) ≡ items

items_line : (name : List ℕ) (items : List (List ℕ)) → 0 < length items → IsWord name
    → Each IsPiece items → IsItemLine name items
items_line name [] some word each = absurd (omega arith)
items_line name (item ∷ items) some word each =
    let is : IsNamed name (joined 44 (spaced (item ∷ items))) =
    named_apart name (joined 44 (spaced (item ∷ items))) word
    (items_tail item items each.0 each.1) in
    record {
      entry = is.entry;
      colon = is.colon;
      head = is.head;
      apart =
          items_apart name item items word each.0 each.1;
    }

pub material_line : (m : Material) → IsWellFormedMaterial m → IsItemLine m.name (material_items m)
material_line m good =
    items_line m.name (material_items m) (omega arith) (name_word m.name good.named)
    (material_pieces m good)

pub unit_line : (count : ℕ) (u : OperatingUnit) → IsWellFormedUnit count u
    → IsItemLine u.name (unit_items u)
unit_line count u good =
    items_line u.name (unit_items u) (omega arith) (name_word u.name good.named)
    (unit_pieces count u good)

-- names are words
words_of : (names : List (List ℕ)) → Each (λ name. is_name name ≡ true) names → Each IsWord names
words_of names each = each-to (λ name. is_name name ≡ true) IsWord name_word names each

pub exclusion_line : (names : List (List ℕ)) → Each (λ name. is_name name ≡ true) names
    → (e : Exclusion) → IsWellFormedExclusion (length names) e
    → IsItemLine e.name (map (name_at names) e.units)
exclusion_line names each e good =
    let items : List (List ℕ) = map (name_at names) e.units in
    let many : 2 ≤ length e.units = good.enough in
    let some : 0 < length items = omega (arith, length-map e.units (name_at names)) in
    items_line e.name items some (name_word e.name good.named)
    (each-to IsWord IsPiece word_piece items
    (member_words names 0 e.units (words_of names each) good.rising))

-- a name and the sides of a unit
pub record IsRatesLine (names : List (List ℕ)) (u : OperatingUnit) : Type 0 where
  pub entry : IsEntry (rates_text names u)
  pub head : head_of (rates_text names u) ≡ u.name
  pub sides : sides_of (rates_text names u) ≡ map (term_tokens names) u.inputs
      ∷ map (term_tokens names) u.outputs ∷ []

pub rates_line : (names : List (List ℕ)) → Each (λ name. is_name name ≡ true) names
    → (u : OperatingUnit) → IsWellFormedUnit (length names) u → IsRatesLine names u
rates_line names each u good =
    let words : Each IsWord names = words_of names each in
    let word : IsWord u.name = name_word u.name good.named in
    let is : IsNamed u.name (token_text (rates_tokens names u)) =
    named_apart u.name (token_text (rates_tokens names u)) word
    (rates_tail names words u good) in
    record {
      entry = is.entry;
      head = is.head;
      sides =
          sides_apart names words u good u.name word;
    }

payout_entry : (k : ℕ) → k < 2 ^ 64 → IsEntry (payout_text k)
payout_entry k lt =
    let word : IsWord (decimal k) =
    record {
      all =
          all_to is_ascii_digit continues_name digit_continues (decimal k) (decimal_reads k lt).0;
      some = decimal_nonempty k lt;
    } in
    let is : IsPiece (decimal k) = word_piece (decimal k) word in
    piece_entry (payout_text k) (record { all = is.all; some = omega arith })

-- ---- the text of a problem

abbrev pub payout_texts : ℕ → List (List ℕ)
payout_texts k = if k == 1 then [] else payout_text k ∷ []

abbrev pub payout_part : Problem → Part
payout_part p =
    record { section = Defaults; always = false; texts = payout_texts (unsigned_abs p.payout) }

abbrev pub material_part : Problem → Part
material_part p =
    record { section = Materials; always = true; texts = map material_text p.materials }

abbrev pub unit_part : Problem → Part
unit_part p = record { section = OperatingUnits; always = true; texts = map unit_text p.units }

abbrev pub rates_part : Problem → Part
rates_part p =
    record {
      section = Rates;
      always = true;
      texts =
          map (rates_text (material_names p.materials)) p.units;
    }

abbrev pub exclusion_part : Problem → Part
exclusion_part p =
    record {
      section = Exclusions;
      always = false;
      texts =
          map (exclusion_text (unit_names p.units)) p.exclusions;
    }

abbrev pub parts_of : Problem → List Part
parts_of p = payout_part p ∷ material_part p ∷ unit_part p ∷ rates_part p ∷ exclusion_part p ∷ []

canonical_spelled : (p : Problem) → canonical_lines p ≡ file_type ∷ spelled (parts_of p)
canonical_spelled p =
    ap (λ (last : List (List ℕ)). file_type
    ∷ (payout_lines p.payout
    ++ (section_lines (codes "materials") (material_lines p)
    ++ (section_lines (codes "operating_units") (unit_lines p)
    ++ (section_lines (codes "material_to_operating_unit_flow_rates") (rates_lines p) ++ last)))))
    (exclusions (exclusion_lines p))
    ∙ ap (λ (lines : List (List ℕ)). file_type ∷ lines)
    (payout (unsigned_abs p.payout == 1)) where
      exclusions : (lines : List (List ℕ))
          → exclusion_section lines
          ≡ spelled (record { section = Exclusions; always = false; texts = lines } ∷ [])
      exclusions [] = refl
      exclusions (line ∷ lines) =
          ap (λ (ls : List (List ℕ)). [] ∷ (codes "mutual_exclusions" ++ 58 ∷ []) ∷ ls)
          (sym (append-nil (line ∷ lines)))

      payout : (one : Bool) → let text : List ℕ =
          payout_text (unsigned_abs p.payout) in let rest : List Part =
          material_part p ∷ unit_part p ∷ rates_part p ∷ exclusion_part p ∷ [] in
          (if one then [] else section_lines (codes "defaults") (text ∷ [])) ++ spelled rest
          ≡ spelled
          (record { section = Defaults; always = false; texts = if one then [] else text ∷ [] }
          ∷ rest)
      payout true = refl
      payout false = refl

module _ (p : Problem) (is : IsWellFormed p) where
  -- units and exclusions, by the names that stand for their materials and units
  pub units_named : Each (IsWellFormedUnit (length (material_names p.materials))) p.units
  units_named =
      subst (λ k. Each (IsWellFormedUnit k) p.units)
      (sym (length-map p.materials (λ (m : Material). m.name))) is.units_formed

  pub exclusions_named : Each (IsWellFormedExclusion (length (unit_names p.units))) p.exclusions
  exclusions_named =
      subst (λ k. Each (IsWellFormedExclusion k) p.exclusions)
      (sym (length-map p.units (λ (u : OperatingUnit). u.name))) is.exclusions_formed

  -- names of materials and units
  pub names_of_materials : Each (λ name. is_name name ≡ true) (material_names p.materials)
  names_of_materials =
      each-map (λ name. is_name name ≡ true) (λ (m : Material). m.name) p.materials
      (each-to IsWellFormedMaterial (λ m. is_name m.name ≡ true) (λ m good. good.named)
      p.materials
      is.materials_formed)

  pub names_of_units : Each (λ name. is_name name ≡ true) (unit_names p.units)
  names_of_units =
      each-map (λ name. is_name name ≡ true) (λ (u : OperatingUnit). u.name) p.units
      (each-to (IsWellFormedUnit (length p.materials)) (λ u. is_name u.name ≡ true)
      (λ u good. good.named) p.units is.units_formed)

  are_parts : Each IsPart (parts_of p)
  are_parts =
      let ms : List (List ℕ) = material_names p.materials in
      let us : List (List ℕ) = unit_names p.units in
      let k : ℕ = unsigned_abs p.payout in
      let payout : Each IsEntry (payout_texts k) =
      cond_both (k == 1) [] (payout_text k ∷ []) (λ texts. Each IsEntry texts) (λ e. tt)
      (λ e. (payout_entry k (omega (arith, is.payout_limit)), tt)) in
      let materials : Each IsEntry (map material_text p.materials) =
      each-map IsEntry material_text p.materials
      (each-to IsWellFormedMaterial (λ m. IsEntry (material_text m))
      (λ m good. (material_line m good).entry) p.materials is.materials_formed) in
      let units : Each IsEntry (map unit_text p.units) =
      each-map IsEntry unit_text p.units
      (each-to (IsWellFormedUnit (length ms)) (λ u. IsEntry (unit_text u))
      (λ u good. (unit_line (length ms) u good).entry) p.units units_named) in
      let rates : Each IsEntry (map (rates_text ms) p.units) =
      each-map IsEntry (rates_text ms) p.units
      (each-to (IsWellFormedUnit (length ms)) (λ u. IsEntry (rates_text ms u))
      (λ u good. (rates_line ms names_of_materials u good).entry) p.units units_named) in
      let exclusions : Each IsEntry (map (exclusion_text us) p.exclusions) =
      each-map IsEntry (exclusion_text us) p.exclusions
      (each-to (IsWellFormedExclusion (length us)) (λ e. IsEntry (exclusion_text us e))
      (λ e good. (exclusion_line us names_of_units e good).entry) p.exclusions
      exclusions_named) in (
        (refl, payout),
        ((refl, materials), ((refl, units), ((refl, rates), ((refl, exclusions), tt)))),
      )

  -- the lines of the canonical text, those that are not empty, and those that have a meaning
  pub canonical_read : lines_of (canonical p) ≡ file_type ∷ spelled (parts_of p)
  canonical_read =
      let first : IsLine file_type =
      record { feed = refl; ret = refl; sign = refl; front = refl; back = refl } in
      lines_read (canonical_lines p)
      (subst (Each IsLine) (sym (canonical_spelled p))
      (first, parts_lines (parts_of p) are_parts)) refl ∙ canonical_spelled p

  pub canonical_laid : body_of (file_type ∷ spelled (parts_of p)) ≡ laid 2 (parts_of p)
  canonical_laid = parts_placed 2 Preamble (parts_of p) are_parts

  pub canonical_meant : filter matters (body_of (file_type ∷ spelled (parts_of p)))
      ≡ meant 2 (parts_of p)
  canonical_meant = ap (filter matters) canonical_laid ∙ parts_matter 2 (parts_of p) are_parts
