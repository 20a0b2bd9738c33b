-- Names of a valid problem stand for their numbers, and no other texts do.
use Rattle.std.proofs.Common.{◌≡◌, ◌<◌, ◌≤◌, ◌+◌, ◌==◌, true, false, not, ℕ, zero, suc, nat_lt}
use Rattle.std.proofs.Common.{List, [], ◌∷◌, length, map, position, get_or, slice_index_or, Some}
use Rattle.std.proofs.Common.{None, refl, sym, ◌∙◌, ap, arith, one-add, lt-ltb, ne_eqb, leb-true}
use Rattle.std.proofs.Common.{if◌then◌else◌}
use Rattle.std.specs.List.{list_all, list_any, position_or_len}
use Rattle.std.specs.Str.{bytes_eq}
use Rattle.std.proofs.lemmas.Bool.{cond-true, cond-false, and_parts, or_parts}
use Rattle.std.proofs.lemmas.List.{get_or-map, length-map}
use Rattle.std.proofs.lemmas.List.Quantifiers.{position-Some}
use Rattle.std.proofs.lemmas.Slice.Eq.{bytes_eq-Decides}
use Rattle.tree_text_rules.specs.number_sets.Sets.{AreBelow}
use Rattle.tree_text_rules.specs.problem_rules.Each.{Each}
use Rattle.tree_text_rules.specs.problem_rules.Names.{is_name, continues_name, is_among, has_double}
use Rattle.tree_text_rules.specs.problem_rules.Problem.{Problem, Material, OperatingUnit, Exclusion}
use Rattle.tree_text_rules.specs.problem_rules.Problem.{no_material}
use Rattle.tree_text_rules.specs.problem_rules.Problem.{no_unit, no_exclusion}
use Rattle.tree_text_rules.specs.problem_rules.WellFormed.{IsWellFormed, IsWellFormedMaterial}
use Rattle.tree_text_rules.specs.problem_rules.WellFormed.{IsWellFormedUnit}
use Rattle.tree_text_rules.specs.problem_rules.WellFormed.{IsWellFormedExclusion}
use Rattle.text_laws.proofs.Cited.{not_mark, none_from_all, each-to, bytes_same, bytes_differ}
use Rattle.tree_text_rules.specs.tree_rules.Known.{IsUnit, IsMaterial, IsExclusion, AreUnits}
use Rattle.tree_text_rules.specs.Line.{Token}
use Rattle.tree_text_rules.specs.Spelling.{unit_name, material_name, exclusion_name}
use Rattle.tree_text_rules.specs.Token.{told, each, is_rising, unit_of, material_of, exclusion_of}
use Rattle.tree_text_rules.specs.Token.{units_of}
use Rattle.tree_text_rules.specs.declared.TreeKind.TheVariants.{UnknownName, Order}
use Rattle.tree_text_laws.specs.Codes.{IsToken, IsCode}
use Rattle.tree_text_laws.proofs.Codes.{AreFields, each_fields, told_ok, told_again, judged_ok}
use Rattle.tree_text_laws.proofs.Codes.{judged_again, rising_back, rising_again}

name_mark : (k : ℕ) → continues_name k ≡ false → (text : List ℕ)
    → list_all continues_name text ≡ true → list_any (λ c. c == k) text ≡ false
name_mark k off text all =
    none_from_all continues_name (λ c. c == k) (λ c at. not_mark continues_name k c off at) text all

-- a name is a token
name_token : (name : List ℕ) → is_name name ≡ true → IsToken name
name_token name is =
    let parts = and_parts _ (list_all continues_name name) is in
    let front = and_parts _ _ parts.0 in
    let size = and_parts _ _ front.0 in
    let long : 1 ≤ length name = leb-true 1 (length name) size.0 in
    record {
      some = ap not (ne_eqb (length name) 0 (λ e. omega (arith, e, long)));
      space = name_mark 32 refl name parts.1;
      feed = name_mark 10 refl name parts.1;
    }

-- ---- the number of a name

module _ {A : Type 0} (name : A → List ℕ) (none : A) where
  found_back : (xs : List A) (token : Token) (k : ℕ)
      → position (λ n. bytes_eq n token) (map name xs) ≡ Some k
      → (token ≡ name (slice_index_or xs k none)) × (k < length xs)
  found_back xs token k e =
      let p = position-Some (λ n. bytes_eq n token) (map name xs) k (name none) e in
      let lt : k < length xs = omega (arith, p.0, length-map xs name) in
      let same = (bytes_eq-Decides (get_or (map name xs) k (name none)) token).0 p.1 in
      (sym same ∙ get_or-map name xs k none (name none) lt, lt)

  other_at : (xs : List A) (word : List ℕ) (k : ℕ) → is_among (map name xs) word ≡ false
      → k < length xs → bytes_eq word (name (slice_index_or xs k none)) ≡ false
  other_at [] word k off lt = absurd (omega arith)
  other_at (x ∷ xs) word zero off lt =
      bytes_differ (name x) word
      ((or_parts (bytes_eq (name x) word) (is_among (map name xs) word) off).0)
  other_at (x ∷ xs) word (suc k) off lt =
      other_at xs word k ((or_parts (bytes_eq (name x) word) (is_among (map name xs) word) off).1)
      (omega arith)

  place_at : (xs : List A) (k : ℕ) → has_double (map name xs) ≡ false → k < length xs
      → position_or_len (λ n. bytes_eq n (name (slice_index_or xs k none))) (map name xs) ≡ k
  place_at [] k off lt = absurd (omega arith)
  place_at (x ∷ xs) zero off lt =
      cond-false (not (bytes_eq (name x) (name x))) _ 0 (ap not (bytes_same (name x)))
  place_at (x ∷ xs) (suc k) off lt =
      let apart = or_parts (is_among (map name xs) (name x)) (has_double (map name xs)) off in
      let other : bytes_eq (name x) (name (slice_index_or xs k none)) ≡ false =
      other_at xs (name x) k apart.0 (omega arith) in
      cond-true (not (bytes_eq (name x) (name (slice_index_or xs k none))))
      (1 + position_or_len (λ n. bytes_eq n (name (slice_index_or xs k none))) (map name xs)) 0
      (ap not other)
      ∙ ap (λ n. 1 + n) (place_at xs k apart.1 (omega arith)) ∙ one-add k

  found_again : (xs : List A) (k : ℕ) → has_double (map name xs) ≡ false → k < length xs
      → position (λ n. bytes_eq n (name (slice_index_or xs k none))) (map name xs) ≡ Some k
  found_again xs k off lt =
      ap (λ n. if nat_lt n (length (map name xs)) then Some n else None) (place_at xs k off lt)
      ∙ cond-true (nat_lt k (length (map name xs))) (Some k) None
      (lt-ltb k (length (map name xs)) (omega (arith, lt, length-map xs name)))

  named_at : (xs : List A) (k : ℕ) → Each (λ x. is_name (name x) ≡ true) xs → k < length xs
      → is_name (name (slice_index_or xs k none)) ≡ true
  named_at [] k each lt = absurd (omega arith)
  named_at (x ∷ xs) zero each lt = each.0
  named_at (x ∷ xs) (suc k) each lt = named_at xs k each.1 (omega arith)

  name_code : (xs : List A) → has_double (map name xs) ≡ false
      → Each (λ x. is_name (name x) ≡ true) xs
      → IsCode (λ token. told UnknownName (position (λ n. bytes_eq n token) (map name xs)))
      (λ k. name (slice_index_or xs k none)) (λ k. k < length xs)
  name_code xs off each = record {
    back =
        λ token k e. found_back xs token k
        (told_ok UnknownName (position (λ n. bytes_eq n token) (map name xs)) k e);
    again =
        λ k lt. told_again UnknownName
        (position (λ n. bytes_eq n (name (slice_index_or xs k none))) (map name xs)) k
        (found_again xs k off lt);
    token = λ k lt. name_token (name (slice_index_or xs k none)) (named_at xs k each lt);
  }

-- ---- units, materials and exclusions

module _ (p : Problem) (good : IsWellFormed p) where
  pub unit_code : IsCode (unit_of p) (unit_name p) (IsUnit p)
  unit_code = name_code (λ (u : OperatingUnit). u.name) no_unit p.units good.units_apart
      (each-to (IsWellFormedUnit (length p.materials)) (λ u. is_name u.name ≡ true)
      (λ u is. is.named) p.units good.units_formed)

  pub material_code : IsCode (material_of p) (material_name p) (IsMaterial p)
  material_code = name_code (λ (m : Material). m.name) no_material p.materials good.materials_apart
      (each-to IsWellFormedMaterial (λ m. is_name m.name ≡ true) (λ m is. is.named) p.materials
      good.materials_formed)

  pub exclusion_code : IsCode (exclusion_of p) (exclusion_name p) (IsExclusion p)
  exclusion_code =
      name_code (λ (e : Exclusion). e.name) no_exclusion p.exclusions good.exclusions_apart
      (each-to (IsWellFormedExclusion (length p.units)) (λ e. is_name e.name ≡ true)
      (λ e is. is.named) p.exclusions good.exclusions_formed)

  below_from : (us : List ℕ) → Each (IsUnit p) us → AreBelow (length p.units) us
  below_from [] each = tt
  below_from (u ∷ us) each = (each.0, below_from us each.1)

  each_below : (us : List ℕ) → AreBelow (length p.units) us → Each (IsUnit p) us
  each_below [] below = tt
  each_below (u ∷ us) below = (below.0, each_below us below.1)

  names : AreFields (each (unit_of p)) (map (unit_name p)) (Each (IsUnit p))
  names = each_fields (unit_of p) (unit_name p) (IsUnit p) unit_code

  pub units_fields : AreFields (units_of p) (map (unit_name p)) (AreUnits p)
  units_fields = record {
    back = λ tokens us e.
        let j = judged_ok is_rising Order (each (unit_of p) tokens) us e in
        let b = names.back tokens us j.0 in (
          b.0,
          let set : AreUnits p us =
              record { rising = rising_back us j.1; below = below_from us b.1 } in set,
        );
    again =
        λ us set. judged_again is_rising Order (each (unit_of p) (map (unit_name p) us)) us
        (names.again us (each_below us set.below)) (rising_again us set.rising);
    tokens = λ us set. names.tokens us (each_below us set.below);
  }
