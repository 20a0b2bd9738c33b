-- Names that are there once, how many of them a text without a fault has, and the units of an
-- exclusion, which rise and are at least two.
use Rattle.std.proofs.Common.{◌≡◌, ◌<◌, ◌≤◌, ◌⊎◌, inl, inr, ⊎_elim, ◌+◌, ◌&&◌, ◌||◌, Bool, true}
use Rattle.std.proofs.Common.{false, cond, not, nat_le, ℕ, suc, List, [], ◌∷◌, ◌++◌, length}
use Rattle.std.proofs.Common.{filter}
use Rattle.std.proofs.Common.{bytes_eq, None, refl, sym, ◌∙◌, ap, subst, arith, leb-false}
use Rattle.std.proofs.Common.{length-append, append_assoc, append-nil}
use Rattle.std.proofs.lemmas.Bool.{cond_both, or_parts, or_from, or_left, or_right, or_cases}
use Rattle.std.proofs.lemmas.Bool.{and_right, and_from}
use Rattle.std.proofs.lemmas.List.Folds.{list_any-append}
use Rattle.std.proofs.lemmas.Map.Made.{length-le_from_is_member}
use Rattle.std.proofs.lemmas.Map.Views.{any-filter_same}
use Rattle.std.proofs.lemmas.Cmp.{nat_list_eq_equiv}
use Rattle.std.specs.Ordering.{flip_args}
use Rattle.std.specs.Cmp.{back_equiv}
use Rattle.std.specs.List.{IsDistinct}
use Rattle.std.proofs.lemmas.Slice.Eq.{bytes_eq-Decides}
use Rattle.text_rules.specs.problem_rules.Names.{is_among, has_double}
use Rattle.text_rules.specs.problem_rules.Each.{Each}
use Rattle.text_rules.specs.problem_rules.WellFormed.{AreRisingFrom}
use Rattle.text_rules.specs.declared.Section.{Section}
use Rattle.text_rules.specs.declared.Section.TheVariants.{Materials, OperatingUnits, Rates}
use Rattle.text_rules.specs.declared.Section.TheVariants.{Exclusions}
use Rattle.text_rules.specs.Line.{Placed, head_of, heads_at, matters}
use Rattle.text_rules.specs.Field.{items_of}
use Rattle.text_rules.specs.Fault.{Seen, seen_after, with_name, is_beyond, line_fault}
use Rattle.text_rules.specs.Fault.{first_fault}
use Rattle.text_rules.specs.Value.{numbers_among}
use Rattle.text_laws.proofs.Each.{each-to, none_each, none_from_each}
use Rattle.text_laws.proofs.Numbers.{rising_less}
use Rattle.text_laws.proofs.Names.{bytes_differ}
use Rattle.text_laws.proofs.NoKind.{no_material_fault, no_unit_fault, no_rates_fault}
use Rattle.text_laws.proofs.NoKind.{no_exclusion_fault, fault_none}

-- ---- lists of names

pub among_filter : (q : List ℕ → Bool) (names : List (List ℕ)) (x : List ℕ)
    → is_among (filter q names) x ≡ (q x && is_among names x)
among_filter q names x =
    any-filter_same (λ name. bytes_eq name x) q (q x)
    (λ name same. ap q ((bytes_eq-Decides name x).0 same)) names

pub double_filter : (q : List ℕ → Bool) (names : List (List ℕ)) → has_double names ≡ false
    → has_double (filter q names) ≡ false
double_filter q [] none = refl
double_filter q (name ∷ names) none =
    let parts = or_parts (is_among names name) (has_double names) none in
    cond_both (q name) (name ∷ filter q names) (filter q names) (λ ns. has_double ns ≡ false)
    (λ e. or_from (is_among (filter q names) name) (has_double (filter q names))
    (among_filter q names name ∙ and_right (q name) (is_among names name) parts.0)
    (double_filter q names parts.1)) (λ e. double_filter q names parts.1)

pub double_append : (xs ys : List (List ℕ)) → has_double xs ≡ false → has_double ys ≡ false
    → Each (λ y. is_among xs y ≡ false) ys → has_double (xs ++ ys) ≡ false
double_append [] ys one two apart = two
double_append (x ∷ xs) ys one two apart =
    let parts = or_parts (is_among xs x) (has_double xs) one in
    let none =
    each-to (λ y. is_among (x ∷ xs) y ≡ false)
    (λ y. (bytes_eq y x ≡ false) × (is_among xs y ≡ false))
    (λ y e. let both = or_parts (bytes_eq x y) (is_among xs y) e in
    (bytes_differ x y both.0, both.1)) ys apart in
    or_from (is_among (xs ++ ys) x) (has_double (xs ++ ys))
    (list_any-append (λ name. bytes_eq name x) xs ys
    ∙ or_from (is_among xs x) (is_among ys x) parts.0
    (none_from_each (λ y. bytes_eq y x) ys (each-to _ _ (λ y is. is.0) ys none)))
    (double_append xs ys parts.1 two (each-to _ _ (λ y is. is.1) ys none))

-- a list without a double, all of whose members are among others, is no longer
distinct_from : (names : List (List ℕ)) → has_double names ≡ false
    → IsDistinct (flip_args bytes_eq) names
unfolding IsDistinct
distinct_from [] none = tt
distinct_from (name ∷ names) none = let parts =
    or_parts (is_among names name) (has_double names) none in
    (none_each (λ other. bytes_eq other name) names parts.0, distinct_from names parts.1)

pub no_longer : (xs ys : List (List ℕ)) → has_double xs ≡ false
    → ((x : List ℕ) → is_among xs x ≡ true → is_among ys x ≡ true) → length xs ≤ length ys
no_longer xs ys none all =
    length-le_from_is_member (back_equiv nat_list_eq_equiv) xs ys (distinct_from xs none) all

-- ---- names that were seen

-- names that are there once, at most so many
pub record AreFew (most : ℕ) (names : List (List ℕ)) : Type 0 where
  pub few : length names ≤ most
  pub once : has_double names ≡ false

few_more : (most : ℕ) (names : List (List ℕ)) (name : List ℕ) → nat_le most (length names) ≡ false
    → is_among names name ≡ false → AreFew most names → AreFew most (names ++ name ∷ [])
few_more most names name room first are = record {
  few = omega (arith, length-append names (name ∷ []), leb-false most (length names) room);
  once = double_append names (name ∷ []) are.once refl (first, tt);
}

-- names of units that are there once and are all among the names of `all`
pub record AreHeld (all names : List (List ℕ)) : Type 0 where
  pub once : has_double names ≡ false
  pub held : (x : List ℕ) → is_among names x ≡ true → is_among all x ≡ true

module _ (all : List (List ℕ)) (name : List ℕ) where
  -- the names of `all`, and the new one
  with_either : (x : List ℕ) → (is_among all x ≡ true) ⊎ (bytes_eq name x ≡ true)
      → is_among (with_name all name) x ≡ true
  with_either x is =
      cond_both (is_among all name) all (all ++ name ∷ []) (λ ns. is_among ns x ≡ true)
      (λ e. ⊎_elim (λ (old : is_among all x ≡ true). old)
      (λ (same : bytes_eq name x ≡ true). ap (is_among all)
      (sym ((bytes_eq-Decides name x).0 same)) ∙ e) is)
      (λ e. list_any-append (λ word. bytes_eq word x) all (name ∷ [])
      ∙ ⊎_elim
      (λ (old : is_among all x ≡ true). or_left (is_among all x) (bytes_eq name x || false) old)
      (λ (same : bytes_eq name x ≡ true). or_right (is_among all x) (bytes_eq name x || false)
      (or_left (bytes_eq name x) false same)) is)

  held_kept : (names : List (List ℕ)) → AreHeld all names → AreHeld (with_name all name) names
  held_kept names are =
      record { once = are.once; held = λ x is. with_either x (inl (are.held x is)) }

  held_more : (names : List (List ℕ)) → is_among names name ≡ false → AreHeld all names
      → AreHeld (with_name all name) (names ++ name ∷ [])
  held_more names first are = record {
    once = double_append names (name ∷ []) are.once refl (first, tt);
    held =
        λ x is. with_either x
        (⊎_elim (λ (old : is_among names x ≡ true). inl (are.held x old))
        (λ (new : (bytes_eq name x || false) ≡ true). inr (or_false (bytes_eq name x) new))
        (or_cases (is_among names x) (bytes_eq name x || false)
        (sym (list_any-append (λ word. bytes_eq word x) names (name ∷ [])) ∙ is)));
  } where
    or_false : (b : Bool) → (b || false) ≡ true → b ≡ true
    or_false true e = refl
    or_false false e = e

  still_few : is_beyond all name ≡ false → length all ≤ 128 → length (with_name all name) ≤ 128
  still_few room few =
      cond_both (is_among all name) all (all ++ name ∷ []) (λ ns. length ns ≤ 128) (λ e. few)
      (λ e.
      let less : length all < 128 =
      leb-false 128 (length all) (ap (λ b. not b && nat_le 128 (length all)) (sym e) ∙ room) in
      omega (arith, length-append all (name ∷ [])))

-- the names of entries, if `all` has those of units
pub record AreGoodNames (materials units rates exclusions all : List (List ℕ)) : Type 0 where
  pub few_materials : AreFew 256 materials
  pub few_exclusions : AreFew 64 exclusions
  pub held_units : AreHeld all units
  pub held_rates : AreHeld all rates
  pub few : length all ≤ 128

abbrev IsGoodSeen : Seen → Type 0
IsGoodSeen seen =
    AreGoodNames seen.materials seen.units seen.rates seen.exclusions seen.unit_names

-- together with those of the lines that follow
module _ (lines : List Placed) where
  abbrev Heads : Section → List (List ℕ)
  Heads section = heads_at section (filter matters lines)

  abbrev pub IsGoodWith : Seen → Type 0
  IsGoodWith seen = (all : List (List ℕ))
      × AreGoodNames (seen.materials ++ Heads Materials) (seen.units ++ Heads OperatingUnits)
      (seen.rates ++ Heads Rates) (seen.exclusions ++ Heads Exclusions) all

good_step : (seen : Seen) (header : Bool) (section : Section) (number : ℕ) (text : List ℕ)
    (lines : List Placed) → let line : Placed =
    record { number = number; section = section; header = header; text = text } in
    line_fault seen line ≡ None
    → (IsGoodSeen (seen_after seen line) → IsGoodWith lines (seen_after seen line))
    → IsGoodSeen seen → IsGoodWith (line ∷ lines) seen
good_step seen false Materials number text lines e rest good =
    let fine = no_material_fault seen.materials (head_of text) (items_of text) e in
    let more =
    rest
    (record {
      few_materials =
          few_more 256 seen.materials (head_of text) fine.room fine.first good.few_materials;
      few_exclusions = good.few_exclusions;
      held_units = good.held_units;
      held_rates =
          good.held_rates;
      few = good.few;
    }) in (
      more.0,
      subst
          (λ names. AreGoodNames names (seen.units ++ Heads lines OperatingUnits)
          (seen.rates ++ Heads lines Rates) (seen.exclusions ++ Heads lines Exclusions) more.0)
          (append_assoc seen.materials (head_of text ∷ []) (Heads lines Materials)) more.1,
    )
good_step seen false OperatingUnits number text lines e rest good =
    let fine = no_unit_fault seen.units seen.unit_names (head_of text) (items_of text) e in
    let more = rest (record {
      few_materials = good.few_materials;
      few_exclusions = good.few_exclusions;
      held_units = held_more seen.unit_names (head_of text) seen.units fine.first good.held_units;
      held_rates = held_kept seen.unit_names (head_of text) seen.rates good.held_rates;
      few = still_few seen.unit_names (head_of text) fine.room good.few;
    }) in (
      more.0,
      subst
          (λ names. AreGoodNames (seen.materials ++ Heads lines Materials) names
          (seen.rates ++ Heads lines Rates) (seen.exclusions ++ Heads lines Exclusions) more.0)
          (append_assoc seen.units (head_of text ∷ []) (Heads lines OperatingUnits)) more.1,
    )
good_step seen false Rates number text lines e rest good =
    let fine = no_rates_fault seen.rates seen.unit_names (head_of text) text e in
    let more = rest (record {
      few_materials = good.few_materials;
      few_exclusions = good.few_exclusions;
      held_units = held_kept seen.unit_names (head_of text) seen.units good.held_units;
      held_rates = held_more seen.unit_names (head_of text) seen.rates fine.first good.held_rates;
      few = still_few seen.unit_names (head_of text) fine.room good.few;
    }) in (
      more.0,
      subst
          (λ names. AreGoodNames (seen.materials ++ Heads lines Materials)
          (seen.units ++ Heads lines OperatingUnits) names
          (seen.exclusions ++ Heads lines Exclusions)
          more.0) (append_assoc seen.rates (head_of text ∷ []) (Heads lines Rates)) more.1,
    )
good_step seen false Exclusions number text lines e rest good =
    let fine = no_exclusion_fault seen.exclusions text (head_of text) (items_of text) e in
    let more =
    rest
    (record {
      few_materials = good.few_materials;
      few_exclusions =
          few_more 64 seen.exclusions (head_of text) fine.room fine.first good.few_exclusions;
      held_units = good.held_units;
      held_rates = good.held_rates;
      few = good.few;
    }) in (
      more.0,
      subst
          (λ names. AreGoodNames (seen.materials ++ Heads lines Materials)
          (seen.units ++ Heads lines OperatingUnits) (seen.rates ++ Heads lines Rates) names
          more.0)
          (append_assoc seen.exclusions (head_of text ∷ []) (Heads lines Exclusions)) more.1,
    )
good_step seen header section number text lines e rest good = rest good

pub good_names : (seen : Seen) (lines : List Placed) → first_fault seen lines ≡ None
    → IsGoodSeen seen → IsGoodWith lines seen
good_names seen [] e good = (
  seen.unit_names,
  subst (λ (s : Seen). AreGoodNames s.materials s.units s.rates s.exclusions seen.unit_names)
      (λ i. record {
        headers = [];
        keys = [];
        materials = sym (append-nil seen.materials) i;
        units =
            sym (append-nil seen.units) i;
        rates = sym (append-nil seen.rates) i;
        exclusions =
            sym (append-nil seen.exclusions) i;
        unit_names = [];
      })
      good,
)
good_names seen (line ∷ lines) e good =
    let parts =
    fault_none line.number (line_fault seen line) (first_fault (seen_after seen line) lines)
    e in
    good_step seen line.header line.section line.number line.text lines parts.0
    (good_names (seen_after seen line) lines parts.1) good

-- ---- the units of an exclusion

pub members_rise : (words : List (List ℕ)) (k top : ℕ) (names : List (List ℕ))
    → top ≡ k + length names → AreRisingFrom top k (numbers_among words k names)
members_rise words k top [] e = tt
members_rise words k top (name ∷ names) e =
    let rest : AreRisingFrom top (k + 1) (numbers_among words (k + 1) names) =
    members_rise words (k + 1) top names (omega arith) in
    cond_both (is_among words name) (k ∷ numbers_among words (k + 1) names)
    (numbers_among words (k + 1) names) (λ ks. AreRisingFrom top k ks)
    (λ e'. (omega arith, omega arith, rest))
    (λ e'. rising_less top k (k + 1) (numbers_among words (k + 1) names) (omega arith) rest)

members_count : (words : List (List ℕ)) (k : ℕ) (names : List (List ℕ))
    → length (numbers_among words k names) ≡ length (filter (is_among words) names)
members_count words k [] = refl
members_count words k (name ∷ names) =
    at (is_among words name) (members_count words (k + 1) names) where
      at : (b : Bool) → length (numbers_among words (k + 1) names)
          ≡ length (filter (is_among words) names)
          → length
          (cond b (k ∷ numbers_among words (k + 1) names) (numbers_among words (k + 1) names))
          ≡ length (cond b (name ∷ filter (is_among words) names) (filter (is_among words) names))
      at true e = ap suc e
      at false e = e

pub members_many : (words names : List (List ℕ)) → has_double words ≡ false
    → ((x : List ℕ) → is_among words x ≡ true → is_among names x ≡ true)
    → length words ≤ length (numbers_among words 0 names)
members_many words names none all =
    let most : length words ≤ length (filter (is_among words) names) =
    no_longer words (filter (is_among words) names) none
    (λ x is. among_filter (is_among words) names x
    ∙ and_from (is_among words x) (is_among names x) is (all x is)) in
    omega (arith, most, members_count words 0 names)
