-- A sound problem stays sound after each edit.
use Rattle.std.proofs.Common.{◌≡◌, ⊎_elim, ℕ, zero, suc, ◌+◌, ◌<◌, ◌≤◌, ◌==◌, true, false, not}
use Rattle.std.proofs.Common.{◌||◌, List, [], ◌∷◌, length, map, get_or, set, pos, refl, sym, ap}
use Rattle.std.proofs.Common.{◌∙◌, subst, arith}
use Rattle.std.specs.Prelude.{int_lt}
use Rattle.std.specs.List.{insert, remove}
use Rattle.std.proofs.lemmas.List.{length-map, length-set}
use Rattle.std.proofs.lemmas.List.Edits.{length-remove, length-insert}
use Rattle.std.proofs.lemmas.Bool.{or_parts, or_left, or_right, or_cases, not-false, ltb-false}
use Rattle.std.proofs.lemmas.Bool.{leb-false, eqb-false, false≢true}
use Rattle.std.proofs.lemmas.Bool.Decides.{nat_tests}
use Rattle.edit_rules.specs.number_sets.Sets.{has, IsBelowAll, IsRising, AreBelow}
use Rattle.edit_rules.proofs.number_sets.Cited.{IsRising-listed, AreBelow-listed}
use Rattle.edit_rules.specs.problem_rules.Problem.{Problem, Material, Term, OperatingUnit}
use Rattle.edit_rules.specs.problem_rules.Problem.{Exclusion}
use Rattle.edit_rules.specs.problem_rules.Problem.{no_material, no_unit, material_at, unit_at}
use Rattle.edit_rules.specs.problem_rules.Problem.{is_product}
use Rattle.edit_rules.specs.problem_rules.Problem.{terms_have, material_names, unit_names}
use Rattle.edit_rules.specs.problem_rules.Problem.{exclusion_names}
use Rattle.edit_rules.specs.problem_rules.Each.{Each}
use Rattle.edit_rules.specs.problem_rules.Validity.{has_product}
use Rattle.edit_rules.proofs.problem_rules.Cited.{Each-at}
use Rattle.edit_rules.specs.Edit.{NamedTerm, Edit, price, bounds, kind, capacity, fix, proportional}
use Rattle.edit_rules.specs.Edit.{rename_material, rename_unit, add_material, remove_material}
use Rattle.edit_rules.specs.Edit.{add_unit, remove_unit, exclude, unexclude, investment, payout}
use Rattle.edit_rules.specs.Numbering.{up, down, in_term, in_unit, in_exclusion, unit_has}
use Rattle.edit_rules.specs.Numbering.{any_unit_has, any_excludes}
use Rattle.edit_rules.specs.Place.{material_place, unit_place, exclusion_place, has_material}
use Rattle.edit_rules.specs.Place.{has_unit, has_exclusion, numbered_terms, lacks_material, members}
use Rattle.edit_rules.specs.Effect.{effect}
use Rattle.edit_rules.specs.Fault.{checks, AreClear}
use Rattle.edit_laws.proofs.Soundness.{IsSound, IsSoundUnit, IsSoundExclusion, AreKnown}
use Rattle.edit_laws.proofs.ListLemmas.{map-insert, map-remove, map-set_at, Each-insert}
use Rattle.edit_laws.proofs.ListLemmas.{Each-remove, Each-set, Each-map}
use Rattle.edit_laws.proofs.NameLemmas.{AreApart, AreApart-insert, AreApart-remove, AreApart-set}
use Rattle.edit_laws.proofs.NumberLemmas.{up-lt, down-lt}
use Rattle.edit_laws.proofs.UndoLemmas.{same_names, place_within}

-- ---- products

pub product_kept : (ms : List Material) (k : ℕ) (x : Material)
    → is_product x.kind ≡ is_product (get_or ms k no_material).kind
    → has_product (set ms k x) ≡ has_product ms
product_kept [] zero x e = refl
product_kept [] (suc k) x e = refl
product_kept (m ∷ ms) zero x e = ap (λ b. b || has_product ms) e
product_kept (m ∷ ms) (suc k) x e = ap (λ b. is_product m.kind || b) (product_kept ms k x e)

pub product_more : (ms : List Material) (k : ℕ) (x : Material) → has_product ms ≡ true
    → has_product (insert ms k x) ≡ true
product_more ms zero x e = or_right (is_product x.kind) (has_product ms) e
product_more [] (suc k) x e = absurd (false≢true e)
product_more (m ∷ ms) (suc k) x e =
    ⊎_elim (λ here. or_left (is_product m.kind) (has_product (insert ms k x)) here)
    (λ there. or_right (is_product m.kind) (has_product (insert ms k x))
    (product_more ms k x there)) (or_cases (is_product m.kind) (has_product ms) e)

-- ---- one item changed

pub materials_changed : (p : Problem) → IsSound p → (k : ℕ) (x : Material)
    → AreApart (material_names (set p.materials k x)) → has_product (set p.materials k x) ≡ true
    → int_lt x.upper x.lower ≡ false → IsSound (record p { materials = set p.materials k x })
materials_changed p s k x apart made ordered =
    let count = length-set p.materials k x in
    record {
      materials_apart = apart;
      units_apart = s.units_apart;
      exclusions_apart = s.exclusions_apart;
      with_product = made;
      ordered =
          Each-set (λ (m : Material). int_lt m.upper m.lower ≡ false) p.materials k x ordered
          s.ordered;
      units_sound = subst (λ n. Each (IsSoundUnit n) p.units) (sym count) s.units_sound;
      exclusions_sound = s.exclusions_sound;
      few_materials = subst (λ n. n ≤ 256) (sym count) s.few_materials;
      few_units = s.few_units;
      few_exclusions = s.few_exclusions;
    }

pub units_changed : (p : Problem) → IsSound p → (k : ℕ) (x : OperatingUnit)
    → AreApart (unit_names (set p.units k x)) → IsSoundUnit (length p.materials) x
    → IsSound (record p { units = set p.units k x })
units_changed p s k x apart sound =
    let count = length-set p.units k x in
    record {
      materials_apart = s.materials_apart;
      units_apart = apart;
      exclusions_apart = s.exclusions_apart;
      with_product = s.with_product;
      ordered = s.ordered;
      units_sound = Each-set (IsSoundUnit (length p.materials)) p.units k x sound s.units_sound;
      exclusions_sound =
          subst (λ n. Each (IsSoundExclusion n) p.exclusions) (sym count) s.exclusions_sound;
      few_materials = s.few_materials;
      few_units = subst (λ n. n ≤ 128) (sym count) s.few_units;
      few_exclusions = s.few_exclusions;
    }

-- a change that keeps the name
pub material_kept : (p : Problem) → IsSound p → (k : ℕ) (x : Material)
    → x.name ≡ (material_at p k).name → has_product (set p.materials k x) ≡ true
    → int_lt x.upper x.lower ≡ false → IsSound (record p { materials = set p.materials k x })
material_kept p s k x e made ordered =
    materials_changed p s k x
    (subst AreApart (sym (same_names (λ (m : Material). m.name) p.materials k no_material x e))
    s.materials_apart) made ordered

pub unit_kept : (p : Problem) → IsSound p → (k : ℕ) (x : OperatingUnit)
    → x.name ≡ (unit_at p k).name → IsSoundUnit (length p.materials) x
    → IsSound (record p { units = set p.units k x })
unit_kept p s k x e sound =
    units_changed p s k x
    (subst AreApart (sym (same_names (λ (u : OperatingUnit). u.name) p.units k no_unit x e))
    s.units_apart) sound

pub material_ordered : (p : Problem) → IsSound p → (n : List ℕ) → has_material p n ≡ true → let m =
    material_at p (material_place p n) in (int_lt m.upper m.lower ≡ false)
material_ordered p s n known =
    Each-at (λ (m : Material). int_lt m.upper m.lower ≡ false) p.materials (material_place p n)
    no_material (place_within (λ (m : Material). m.name) n p.materials known) s.ordered

pub unit_sound : (p : Problem) → IsSound p → (n : List ℕ) → has_unit p n ≡ true
    → IsSoundUnit (length p.materials) (unit_at p (unit_place p n))
unit_sound p s n known =
    Each-at (IsSoundUnit (length p.materials)) p.units (unit_place p n) no_unit
    (place_within (λ (u : OperatingUnit). u.name) n p.units known) s.units_sound

-- ---- renumbered units

pub names_renumbered : (f : ℕ → ℕ) (us : List OperatingUnit)
    → unit_names (map (in_unit f) us) ≡ unit_names us
names_renumbered f [] = refl
names_renumbered f (u ∷ us) = ap (λ ns. u.name ∷ ns) (names_renumbered f us)

pub exclusion_names_renumbered : (f : ℕ → ℕ) (xs : List Exclusion)
    → exclusion_names (map (in_exclusion f) xs) ≡ exclusion_names xs
exclusion_names_renumbered f [] = refl
exclusion_names_renumbered f (x ∷ xs) = ap (λ ns. x.name ∷ ns) (exclusion_names_renumbered f xs)

pub known_up : (k n : ℕ) (ts : List Term) → AreKnown n ts
    → AreKnown (n + 1) (map (in_term (up k)) ts)
known_up k n ts h =
    Each-map (λ (t : Term). t.material < n) (λ (t : Term). t.material < n + 1) (in_term (up k)) ts
    (λ t b. up-lt k t.material n b) h

pub known_down : (k n : ℕ) (ts : List Term) → k < n + 1 → terms_have ts k ≡ false
    → AreKnown (n + 1) ts → AreKnown n (map (in_term (down k)) ts)
known_down k n [] below free h = tt
known_down k n (t ∷ ts) below free h =
    let p = or_parts (t.material == k) (terms_have ts k) free in
    (down-lt k t.material n h.0 below (eqb-false t.material k p.0), known_down k n ts below p.1 h.1)

pub unit_up : (k n : ℕ) (u : OperatingUnit) → IsSoundUnit n u
    → IsSoundUnit (n + 1) (in_unit (up k) u)
unit_up k n u s =
    record {
      ordered = s.ordered;
      inputs_known =
          known_up k n u.inputs s.inputs_known;
      outputs_known = known_up k n u.outputs s.outputs_known;
    }

pub unit_down : (k n : ℕ) → k < n + 1 → (u : OperatingUnit) → unit_has u k ≡ false
    → IsSoundUnit (n + 1) u → IsSoundUnit n (in_unit (down k) u)
unit_down k n below u free s =
    let p = or_parts (terms_have u.inputs k) (terms_have u.outputs k) free in
    record {
      ordered = s.ordered;
      inputs_known =
          known_down k n u.inputs below p.0 s.inputs_known;
      outputs_known =
          known_down k n u.outputs below p.1 s.outputs_known;
    }

pub units_down : (k n : ℕ) → k < n + 1 → (us : List OperatingUnit) → any_unit_has us k ≡ false
    → Each (IsSoundUnit (n + 1)) us → Each (IsSoundUnit n) (map (in_unit (down k)) us)
units_down k n below [] free h = tt
units_down k n below (u ∷ us) free h =
    let p = or_parts (unit_has u k) (any_unit_has us k) free in
    (unit_down k n below u p.0 h.0, units_down k n below us p.1 h.1)

-- ---- renumbered exclusions

pub up-mono : (k x y : ℕ) → x < y → up k x < up k y
up-mono k x y h = grind (arith, nat_tests)

pub down-mono : (k x y : ℕ) → (x ≡ k → ⊥) → (y ≡ k → ⊥) → x < y → down k x < down k y
down-mono k x y a b h = grind (arith, nat_tests)

pub below_mapped : (A : ℕ → Type 0) (f : ℕ → ℕ) → ((x y : ℕ) → A x → A y → x < y → f x < f y)
    → (x : ℕ) (ys : List ℕ) → A x → Each A ys → IsBelowAll x ys → IsBelowAll (f x) (map f ys)
below_mapped A f mono x [] a h b = tt
below_mapped A f mono x (y ∷ ys) a h b = (mono x y a h.0 b.0, below_mapped A f mono x ys a h.1 b.1)

pub rising_mapped : (A : ℕ → Type 0) (f : ℕ → ℕ) → ((x y : ℕ) → A x → A y → x < y → f x < f y)
    → (xs : List ℕ) → Each A xs → IsRising xs → IsRising (map f xs)
rising_mapped A f mono [] h r = tt
rising_mapped A f mono (x ∷ xs) h r =
    (below_mapped A f mono x xs h.0 h.1 r.0, rising_mapped A f mono xs h.1 r.1)

each_any : (xs : List ℕ) → Each (λ _. Unit {0}) xs
each_any [] = tt
each_any (x ∷ xs) = (tt, each_any xs)

pub each_apart : (k : ℕ) (xs : List ℕ) → has xs k ≡ false → Each (λ x. x ≡ k → ⊥) xs
each_apart k [] e = tt
each_apart k (x ∷ xs) e = let p = or_parts (x == k) (has xs k) e in
    (eqb-false x k p.0, each_apart k xs p.1)

below_up : (k n : ℕ) (xs : List ℕ) → AreBelow n xs → AreBelow (n + 1) (map (up k) xs)
below_up k n [] h = tt
below_up k n (x ∷ xs) h = (up-lt k x n h.0, below_up k n xs h.1)

below_down : (k n : ℕ) → k < n + 1 → (xs : List ℕ) → Each (λ x. x ≡ k → ⊥) xs → AreBelow (n + 1) xs
    → AreBelow n (map (down k) xs)
below_down k n below [] a h = tt
below_down k n below (x ∷ xs) a h = (down-lt k x n h.0 below a.0, below_down k n below xs a.1 h.1)

pub exclusion_up : (k n : ℕ) (x : Exclusion) → IsSoundExclusion n x
    → IsSoundExclusion (n + 1) (in_exclusion (up k) x)
exclusion_up k n x s = record {
  rising =
      rising_mapped (λ _. Unit {0}) (up k) (λ x y _ _ h. up-mono k x y h) x.units (each_any x.units)
      s.rising;
  below = below_up k n x.units s.below;
}

pub exclusions_down : (k n : ℕ) → k < n + 1 → (xs : List Exclusion) → any_excludes xs k ≡ false
    → Each (IsSoundExclusion (n + 1)) xs
    → Each (IsSoundExclusion n) (map (in_exclusion (down k)) xs)
exclusions_down k n below [] free h = tt
exclusions_down k n below (x ∷ xs) free h =
    let p = or_parts (has x.units k) (any_excludes xs k) free in
    let a = each_apart k x.units p.0 in (
      record {
        rising = rising_mapped (λ x. x ≡ k → ⊥) (down k) (down-mono k) x.units a h.0.rising;
        below = below_down k n below x.units a h.0.below;
      },
      exclusions_down k n below xs p.1 h.1,
    )

-- ---- terms by name

pub known_resolved : (p : Problem) (ts : List NamedTerm) → lacks_material p ts ≡ false
    → AreKnown (length p.materials) (numbered_terms p ts)
known_resolved p [] e = tt
known_resolved p (t ∷ ts) e =
    let h = or_parts (not (has_material p t.name)) (lacks_material p ts) e in (
      place_within (λ (m : Material). m.name) t.name p.materials
          (not-false (has_material p t.name) h.0),
      known_resolved p ts h.1,
    )

-- ---- all edits

pub stays_sound : (p : Problem) → IsSound p → (e : Edit) → AreClear (checks p e)
    → IsSound (effect p e)
stays_sound p s (price n v) h =
    let k = material_place p n in
    let m = material_at p k in
    material_kept p s k (record m { price = v }) refl
    (product_kept p.materials k (record m { price = v }) refl ∙ s.with_product)
    (material_ordered p s n (not-false (has_material p n) h.0))
stays_sound p s (bounds n low high) h =
    let k = material_place p n in
    let m = material_at p k in
    material_kept p s k (record m { lower = low; upper = high }) refl
    (product_kept p.materials k (record m { lower = low; upper = high }) refl ∙ s.with_product)
    h.1.0
stays_sound p s (kind n kd) h =
    let k = material_place p n in
    let m = material_at p k in
    material_kept p s k (record m { kind = kd }) refl
    (not-false (has_product (set p.materials k (record m { kind = kd }))) h.1.0)
    (material_ordered p s n (not-false (has_material p n) h.0))
stays_sound p s (capacity n low high) h =
    let k = unit_place p n in
    let u = unit_at p k in
    let old = unit_sound p s n (not-false (has_unit p n) h.0) in
    unit_kept p s k (record u { lower = low; upper = high }) refl
    (record {
      ordered = h.1.0;
      inputs_known = old.inputs_known;
      outputs_known =
          old.outputs_known;
    })
stays_sound p s (fix n v) h =
    let k = unit_place p n in
    let u = unit_at p k in
    let old = unit_sound p s n (not-false (has_unit p n) h.0) in
    unit_kept p s k (record u { fix = v }) refl
    (record {
      ordered = old.ordered;
      inputs_known = old.inputs_known;
      outputs_known =
          old.outputs_known;
    })
stays_sound p s (proportional n v) h =
    let k = unit_place p n in
    let u = unit_at p k in
    let old = unit_sound p s n (not-false (has_unit p n) h.0) in
    unit_kept p s k (record u { proportional = v }) refl
    (record {
      ordered = old.ordered;
      inputs_known = old.inputs_known;
      outputs_known =
          old.outputs_known;
    })
stays_sound p s (rename_material old new) h =
    let k = material_place p old in
    let m = material_at p k in
    let x : Material = record m { name = new } in
    materials_changed p s k x
    (subst AreApart (sym (map-set_at (λ (m : Material). m.name) p.materials k x))
    (AreApart-set new (material_names p.materials) k h.1.0 s.materials_apart))
    (product_kept p.materials k x refl ∙ s.with_product)
    (material_ordered p s old (not-false (has_material p old) h.0))
stays_sound p s (rename_unit old new) h =
    let k = unit_place p old in
    let u = unit_at p k in
    let x : OperatingUnit = record u { name = new } in
    let was = unit_sound p s old (not-false (has_unit p old) h.0) in
    units_changed p s k x
    (subst AreApart (sym (map-set_at (λ (u : OperatingUnit). u.name) p.units k x))
    (AreApart-set new (unit_names p.units) k h.1.0 s.units_apart))
    (record {
      ordered = was.ordered;
      inputs_known = was.inputs_known;
      outputs_known =
          was.outputs_known;
    })
stays_sound p s (add_material at n kd v low high) h =
    let x : Material = record { name = n; kind = kd; price = v; lower = low; upper = high } in
    let le = ltb-false (length p.materials) at h.1.0 in
    let count = length-insert p.materials at x le in
    let room = leb-false 256 (length p.materials) h.1.1.1.0 in
    let units = length-map p.units (in_unit (up at)) in
    record {
      materials_apart =
          subst AreApart (sym (map-insert (λ (m : Material). m.name) p.materials at x))
          (AreApart-insert n (material_names p.materials) at h.0 s.materials_apart);
      units_apart = subst AreApart (sym (names_renumbered (up at) p.units)) s.units_apart;
      exclusions_apart = s.exclusions_apart;
      with_product = product_more p.materials at x s.with_product;
      ordered =
          Each-insert (λ (m : Material). int_lt m.upper m.lower ≡ false) p.materials at x h.1.1.0
          s.ordered;
      units_sound =
          subst (λ c. Each (IsSoundUnit c) (map (in_unit (up at)) p.units)) (sym count)
          (Each-map (IsSoundUnit (length p.materials)) (IsSoundUnit (length p.materials + 1))
          (in_unit (up at)) p.units (unit_up at (length p.materials)) s.units_sound);
      exclusions_sound =
          subst (λ c. Each (IsSoundExclusion c) p.exclusions) (sym units) s.exclusions_sound;
      few_materials = omega arith;
      few_units = subst (λ c. c ≤ 128) (sym units) s.few_units;
      few_exclusions = s.few_exclusions;
    }
stays_sound p s (remove_material n) h =
    let k = material_place p n in
    let less =
    place_within (λ (m : Material). m.name) n p.materials (not-false (has_material p n) h.0) in
    let count = length-remove p.materials k less in
    let few = s.few_materials in
    let units = length-map p.units (in_unit (down k)) in
    let below : k < length (remove p.materials k) + 1 = omega arith in
    record {
      materials_apart =
          subst AreApart (sym (map-remove (λ (m : Material). m.name) p.materials k))
          (AreApart-remove (material_names p.materials) k s.materials_apart);
      units_apart = subst AreApart (sym (names_renumbered (down k) p.units)) s.units_apart;
      exclusions_apart = s.exclusions_apart;
      with_product = not-false (has_product (remove p.materials k)) h.1.1.0;
      ordered =
          Each-remove (λ (m : Material). int_lt m.upper m.lower ≡ false) p.materials k s.ordered;
      units_sound =
          units_down k (length (remove p.materials k)) below p.units h.1.0
          (subst (λ c. Each (IsSoundUnit c) p.units) (sym count) s.units_sound);
      exclusions_sound =
          subst (λ c. Each (IsSoundExclusion c) p.exclusions) (sym units) s.exclusions_sound;
      few_materials = omega arith;
      few_units = subst (λ c. c ≤ 128) (sym units) s.few_units;
      few_exclusions = s.few_exclusions;
    }
stays_sound p s (add_unit at n low high f c ins outs) h =
    let x : OperatingUnit =
    record {
      name = n;
      lower = low;
      upper = high;
      fix = f;
      proportional = c;
      investment_fix =
          pos 0;
      investment_proportional = pos 0;
      inputs = numbered_terms p ins;
      outputs =
          numbered_terms p outs;
    } in
    let le = ltb-false (length p.units) at h.1.1.0 in
    let count = length-insert p.units at x le in
    let room = leb-false 128 (length p.units) h.1.1.1.1.0 in
    let terms = or_parts (lacks_material p ins) (lacks_material p outs) h.0 in
    record {
      materials_apart = s.materials_apart;
      units_apart =
          subst AreApart (sym (map-insert (λ (u : OperatingUnit). u.name) p.units at x))
          (AreApart-insert n (unit_names p.units) at h.1.0 s.units_apart);
      exclusions_apart =
          subst AreApart (sym (exclusion_names_renumbered (up at) p.exclusions)) s.exclusions_apart;
      with_product = s.with_product;
      ordered = s.ordered;
      units_sound =
          Each-insert (IsSoundUnit (length p.materials)) p.units at x
          (record {
            ordered = h.1.1.1.0;
            inputs_known =
                known_resolved p ins terms.0;
            outputs_known = known_resolved p outs terms.1;
          })
          s.units_sound;
      exclusions_sound =
          subst (λ c. Each (IsSoundExclusion c) (map (in_exclusion (up at)) p.exclusions))
          (sym count)
          (Each-map (IsSoundExclusion (length p.units)) (IsSoundExclusion (length p.units + 1))
          (in_exclusion (up at)) p.exclusions (exclusion_up at (length p.units))
          s.exclusions_sound);
      few_materials = s.few_materials;
      few_units = omega arith;
      few_exclusions =
          subst (λ c. c ≤ 64) (sym (length-map p.exclusions (in_exclusion (up at))))
          s.few_exclusions;
    }
stays_sound p s (remove_unit n) h =
    let k = unit_place p n in
    let less =
    place_within (λ (u : OperatingUnit). u.name) n p.units (not-false (has_unit p n) h.0) in
    let count = length-remove p.units k less in
    let few = s.few_units in
    let below : k < length (remove p.units k) + 1 = omega arith in
    record {
      materials_apart = s.materials_apart;
      units_apart =
          subst AreApart (sym (map-remove (λ (u : OperatingUnit). u.name) p.units k))
          (AreApart-remove (unit_names p.units) k s.units_apart);
      exclusions_apart =
          subst AreApart (sym (exclusion_names_renumbered (down k) p.exclusions))
          s.exclusions_apart;
      with_product = s.with_product;
      ordered = s.ordered;
      units_sound = Each-remove (IsSoundUnit (length p.materials)) p.units k s.units_sound;
      exclusions_sound =
          exclusions_down k (length (remove p.units k)) below p.exclusions h.1.0
          (subst (λ c. Each (IsSoundExclusion c) p.exclusions) (sym count) s.exclusions_sound);
      few_materials = s.few_materials;
      few_units = omega arith;
      few_exclusions =
          subst (λ c. c ≤ 64) (sym (length-map p.exclusions (in_exclusion (down k))))
          s.few_exclusions;
    }
stays_sound p s (exclude at n us) h =
    let x : Exclusion = record { name = n; units = members p us } in
    let le = ltb-false (length p.exclusions) at h.1.1.0 in
    let count = length-insert p.exclusions at x le in
    let room = leb-false 64 (length p.exclusions) h.1.1.1.0 in
    let test = has (map (unit_place p) us) in
    record {
      materials_apart = s.materials_apart;
      units_apart = s.units_apart;
      exclusions_apart =
          subst AreApart (sym (map-insert (λ (x : Exclusion). x.name) p.exclusions at x))
          (AreApart-insert n (exclusion_names p.exclusions) at h.1.0 s.exclusions_apart);
      with_product = s.with_product;
      ordered = s.ordered;
      units_sound = s.units_sound;
      exclusions_sound =
          Each-insert (IsSoundExclusion (length p.units)) p.exclusions at x
          (record {
            rising = IsRising-listed (length p.units) test;
            below =
                AreBelow-listed (length p.units) test;
          }) s.exclusions_sound;
      few_materials = s.few_materials;
      few_units = s.few_units;
      few_exclusions = omega arith;
    }
stays_sound p s (unexclude n) h =
    let k = exclusion_place p n in
    let less =
    place_within (λ (x : Exclusion). x.name) n p.exclusions
    (not-false (has_exclusion p n) h.0) in
    let count = length-remove p.exclusions k less in
    let few = s.few_exclusions in
    record {
      materials_apart = s.materials_apart;
      units_apart = s.units_apart;
      exclusions_apart =
          subst AreApart (sym (map-remove (λ (x : Exclusion). x.name) p.exclusions k))
          (AreApart-remove (exclusion_names p.exclusions) k s.exclusions_apart);
      with_product = s.with_product;
      ordered = s.ordered;
      units_sound = s.units_sound;
      exclusions_sound =
          Each-remove (IsSoundExclusion (length p.units)) p.exclusions k s.exclusions_sound;
      few_materials = s.few_materials;
      few_units = s.few_units;
      few_exclusions = omega arith;
    }
stays_sound p s (investment n f c) h =
    let k = unit_place p n in
    let u = unit_at p k in
    let old = unit_sound p s n (not-false (has_unit p n) h.0) in
    unit_kept p s k (record u { investment_fix = f; investment_proportional = c }) refl
    (record {
      ordered = old.ordered;
      inputs_known = old.inputs_known;
      outputs_known =
          old.outputs_known;
    })
stays_sound p s (payout years) h = record {
  materials_apart = s.materials_apart;
  units_apart = s.units_apart;
  exclusions_apart = s.exclusions_apart;
  with_product = s.with_product;
  ordered = s.ordered;
  units_sound = s.units_sound;
  exclusions_sound = s.exclusions_sound;
  few_materials = s.few_materials;
  few_units = s.few_units;
  few_exclusions = s.few_exclusions;
}
