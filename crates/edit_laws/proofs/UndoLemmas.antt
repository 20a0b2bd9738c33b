-- Each edit is undone by its inverse.
use Rattle.std.proofs.Common.{◌≡◌, ℕ, zero, suc, ◌<◌, ◌≤◌, Bool, true, false, cond, not, List, []}
use Rattle.std.proofs.Common.{◌∷◌, length, map, get_or, set, ℤ, pos, negsuc, refl, sym, ap, ◌∙◌}
use Rattle.std.proofs.Common.{subst, arith, ◌==◌}
use Rattle.std.proofs.lemmas.List.{set-get_or, set-set, get_or-set_same, length-map}
use Rattle.std.specs.Prelude.{int_lt, unsigned_abs}
use Rattle.std.specs.List.{insert, remove}
use Rattle.std.proofs.lemmas.Bool.{eqb-true, or_from, and_parts, not-false, not_from_true, le-ltb}
use Rattle.std.proofs.lemmas.Bool.{ltb-false, lt-leb}
use Rattle.std.proofs.lemmas.List.Edits.{length-remove}
use Rattle.edit_rules.specs.number_sets.Sets.{has, listed, IsRising, AreBelow}
use Rattle.edit_rules.proofs.number_sets.Cited.{listed-is}
use Rattle.edit_rules.specs.problem_rules.Problem.{Problem, Material, Term, OperatingUnit}
use Rattle.edit_rules.specs.problem_rules.Problem.{Exclusion}
use Rattle.edit_rules.specs.problem_rules.Problem.{no_material, no_unit, no_exclusion, material_at}
use Rattle.edit_rules.specs.problem_rules.Problem.{unit_at}
use Rattle.edit_rules.specs.problem_rules.Problem.{exclusion_at, material_names, unit_names}
use Rattle.edit_rules.specs.problem_rules.Problem.{exclusion_names}
use Rattle.edit_rules.specs.problem_rules.Validity.{has_product}
use Rattle.edit_rules.proofs.problem_rules.Cited.{Each-at}
use Rattle.edit_rules.specs.Edit.{Edit, price, bounds, kind, capacity, fix, proportional}
use Rattle.edit_rules.specs.Edit.{rename_material, rename_unit, add_material, remove_material}
use Rattle.edit_rules.specs.Edit.{add_unit, remove_unit, exclude, unexclude, investment, payout}
use Rattle.edit_rules.specs.Numbering.{up, down, in_unit, in_exclusion, any_unit_has}
use Rattle.edit_rules.specs.Numbering.{any_excludes}
use Rattle.edit_rules.specs.Place.{material_place, unit_place, exclusion_place, has_material}
use Rattle.edit_rules.specs.Place.{has_unit, has_exclusion, numbered_terms, named_terms}
use Rattle.edit_rules.specs.Place.{lacks_material, lacks_unit, members}
use Rattle.edit_rules.specs.Effect.{effect, with_material, with_unit}
use Rattle.edit_rules.specs.Fault.{checks, AreClear}
use Rattle.edit_rules.specs.Inverse.{inverse, costs_no_investment}
use Rattle.edit_rules.specs.Script.{LeadsTo}
use Rattle.edit_laws.proofs.Soundness.{IsSound, IsSoundUnit, IsSoundExclusion, AreKnown}
use Rattle.edit_laws.proofs.ListLemmas.{remove-insert, insert-remove, map-insert, map-remove}
use Rattle.edit_laws.proofs.ListLemmas.{map-set_at, map-at}
use Rattle.edit_laws.proofs.NameLemmas.{knows, place, AreApart, place-lt, get_or-place, place-at}
use Rattle.edit_laws.proofs.NameLemmas.{knows-at, place-insert, knows-insert, gone, place-set}
use Rattle.edit_laws.proofs.NameLemmas.{knows-set, renamed}
use Rattle.edit_laws.proofs.NumberLemmas.{units_back, units_forth, units_free, exclusions_back}
use Rattle.edit_laws.proofs.NumberLemmas.{exclusions_forth, exclusions_free}

-- ---- a changed item, changed back

pub place_within : {X : Type 0} (name : X → List ℕ) (n : List ℕ) (xs : List X)
    → knows n (map name xs) ≡ true → place n (map name xs) < length xs
place_within name n xs e =
    subst (λ j. place n (map name xs) < j) (length-map xs name) (place-lt n (map name xs) e)

pub name_at : {X : Type 0} (name : X → List ℕ) (n : List ℕ) (xs : List X) (d : X)
    → knows n (map name xs) ≡ true → name (get_or xs (place n (map name xs)) d) ≡ n
name_at name n xs d e = sym (map-at name xs (place n (map name xs)) d)
    ∙ get_or-place n (map name xs) (name d) e

pub same_names : {X : Type 0} (name : X → List ℕ) (xs : List X) (k : ℕ) (d x : X)
    → name x ≡ name (get_or xs k d) → map name (set xs k x) ≡ map name xs
same_names name xs k d x e =
    map-set_at name xs k x
    ∙ (ap (λ n. set (map name xs) k n) (e ∙ sym (map-at name xs k d))
    ∙ set-get_or (map name xs) k (name d))

pub set_back : {X : Type 0} (xs : List X) (k j : ℕ) (d x : X) (g : X → X) → k < length xs → j ≡ k
    → g x ≡ get_or xs k d → set (set xs k x) j (g (get_or (set xs k x) j d)) ≡ xs
set_back xs k j d x g h e back =
    ap (λ j. set (set xs k x) j (g (get_or (set xs k x) j d))) e
    ∙ (ap (λ y. set (set xs k x) k y) (ap g (get_or-set_same xs k x d h) ∙ back)
    ∙ (set-set xs k x (get_or xs k d) ∙ set-get_or xs k d))

pub material_back : (p : Problem) (n : List ℕ) (f g : Material → Material)
    → has_material p n ≡ true
    → (let m = material_at p (material_place p n) in ((f m).name ≡ m.name))
    → (let m = material_at p (material_place p n) in (g (f m) ≡ m))
    → (has_material (with_material p n f) n ≡ true)
    × (with_material (with_material p n f) n g ≡ p)
material_back p n f g known keeps back =
    let k = material_place p n in
    let names =
    same_names (λ (m : Material). m.name) p.materials k no_material (f (material_at p k))
    keeps in
    let within = place_within (λ (m : Material). m.name) n p.materials known in
    let same =
    set_back p.materials k (place n (material_names (set p.materials k (f (material_at p k)))))
    no_material (f (material_at p k)) g within (ap (place n) names) back in
    (ap (knows n) names ∙ known, λ i. record p { materials = same i })

pub unit_back : (p : Problem) (n : List ℕ) (f g : OperatingUnit → OperatingUnit)
    → has_unit p n ≡ true → (let u = unit_at p (unit_place p n) in ((f u).name ≡ u.name))
    → (let u = unit_at p (unit_place p n) in (g (f u) ≡ u))
    → (has_unit (with_unit p n f) n ≡ true)
    × (with_unit (with_unit p n f) n g ≡ p)
unit_back p n f g known keeps back =
    let k = unit_place p n in
    let names =
    same_names (λ (u : OperatingUnit). u.name) p.units k no_unit (f (unit_at p k)) keeps in
    let within = place_within (λ (u : OperatingUnit). u.name) n p.units known in
    let same =
    set_back p.units k (place n (unit_names (set p.units k (f (unit_at p k))))) no_unit
    (f (unit_at p k)) g within (ap (place n) names) back in
    (ap (knows n) names ∙ known, λ i. record p { units = same i })

-- ---- renaming: the new name is known, its place is the old one, and the old name is free

pub rename_back : {X : Type 0} (name : X → List ℕ) (old new : List ℕ) (xs : List X) (d x : X)
    (g : X → X) → AreApart (map name xs) → knows old (map name xs) ≡ true
    → knows new (map name xs) ≡ false → name x ≡ new → g x ≡ get_or xs (place old (map name xs)) d
    → (let k = place old (map name xs) in let ys =
    set xs k x in
    ((knows new (map name ys) ≡ true) × (knows old (map name ys) ≡ false)
    × (set ys (place new (map name ys)) (g (get_or ys (place new (map name ys)) d)) ≡ xs)))
rename_back name old new xs d x g apart known free is_new back =
    let k = place old (map name xs) in
    let less = place_within name old xs known in
    let less_names : k < length (map name xs) = place-lt old (map name xs) known in
    let names = map-set_at name xs k x ∙ ap (λ n. set (map name xs) k n) is_new in
    let at = get_or-place old (map name xs) (name d) known in
    let gone_now =
    subst (λ z. knows z (set (map name xs) k new)
    ≡ false) at (renamed new (map name xs) k (name d) apart less_names free) in (
      ap (knows new) names ∙ knows-set new (map name xs) k less_names,
      ap (knows old) names ∙ gone_now,
      set_back xs k (place new (map name (set xs k x))) d x g less
          (ap (place new) names ∙ place-set new (map name xs) k free less_names) back,
    )

-- ---- materials that are added and removed

pub add_material_back : (p : Problem) → IsSound p → (at : ℕ) (x : Material)
    → knows x.name (material_names p.materials) ≡ false → at ≤ length p.materials
    → LeadsTo
    (record p { materials = insert p.materials at x; units = map (in_unit (up at)) p.units })
    (remove_material x.name ∷ []) p
add_material_back p s at x free le =
    let n = x.name in
    let ys = insert p.materials at x in
    let us = map (in_unit (up at)) p.units in
    let q : Problem = record p { materials = ys; units = us } in
    let ns = material_names p.materials in
    let names = map-insert (λ (m : Material). m.name) p.materials at x in
    let le_names : at ≤ length ns =
    subst (λ j. at ≤ j) (sym (length-map p.materials (λ (m : Material). m.name))) le in
    let here : material_place q n ≡ at =
    ap (place n) names ∙ place-insert n ns at free le_names in
    let same : effect q (remove_material n) ≡ p =
    ap (λ (j : ℕ). let r : Problem =
    record p { materials = remove ys j; units = map (in_unit (down j)) us } in r) here
    ∙ (λ i. record p {
      materials = remove-insert p.materials at x le i;
      units =
          units_back at p.units i;
    }) in
    record {
      can = (
        (
          not_from_true (has_material q n) (ap (knows n) names ∙ knows-insert n ns at),
          (
            ap (λ (j : ℕ). any_unit_has us j) here ∙ units_free at p.units,
            (
              ap (λ (r : Problem). not (has_product r.materials)) same ∙ ap not s.with_product,
              tt,
            ),
          ),
        ),
        tt,
      );
      same = same;
    }

pub remove_material_back : (p : Problem) → IsSound p → (n : List ℕ) → has_material p n ≡ true
    → any_unit_has p.units (material_place p n) ≡ false
    → LeadsTo (effect p (remove_material n)) (inverse p (remove_material n)) p
remove_material_back p s n known unused =
    let k = material_place p n in
    let m = material_at p k in
    let ns = material_names p.materials in
    let less = place_within (λ (m : Material). m.name) n p.materials known in
    let less_names : k < length ns = place-lt n ns known in
    let named_so = name_at (λ (m : Material). m.name) n p.materials no_material known in
    let again : Material =
    record { name = n; kind = m.kind; price = m.price; lower = m.lower; upper = m.upper } in
    let is_m : again ≡ m = λ i. record m { name = sym named_so i } in
    let items : insert (remove p.materials k) k again ≡ p.materials =
    ap (λ x. insert (remove p.materials k) k x) is_m
    ∙ insert-remove p.materials k no_material less in
    let names = map-remove (λ (m : Material). m.name) p.materials k in
    let count = length-remove p.materials k less in
    let few = s.few_materials in
    let gone_now =
    subst (λ z. knows z (remove ns k) ≡ false) (get_or-place n ns [] known)
    (gone ns k [] s.materials_apart less_names) in
    record {
      can = (
        (
          ap (knows n) names ∙ gone_now,
          (
            le-ltb (length (remove p.materials k)) k (omega arith),
            (
              Each-at (λ (m : Material). int_lt m.upper m.lower ≡ false) p.materials k no_material
                  less s.ordered,
              (lt-leb 256 (length (remove p.materials k)) (omega arith), tt),
            ),
          ),
        ),
        tt,
      );
      same = λ i. record p { materials = items i; units = units_forth k p.units unused i };
    }

-- ---- units that are added and removed

pub add_unit_back : (p : Problem) (at : ℕ) (x : OperatingUnit)
    → knows x.name (unit_names p.units) ≡ false → at ≤ length p.units
    → LeadsTo
    (record p {
      units = insert p.units at x;
      exclusions =
          map (in_exclusion (up at)) p.exclusions;
    })
    (remove_unit x.name ∷ []) p
add_unit_back p at x free le =
    let n = x.name in
    let ys = insert p.units at x in
    let es = map (in_exclusion (up at)) p.exclusions in
    let q : Problem = record p { units = ys; exclusions = es } in
    let ns = unit_names p.units in
    let names = map-insert (λ (u : OperatingUnit). u.name) p.units at x in
    let le_names : at ≤ length ns =
    subst (λ j. at ≤ j) (sym (length-map p.units (λ (u : OperatingUnit). u.name))) le in
    let here : unit_place q n ≡ at = ap (place n) names ∙ place-insert n ns at free le_names in
    record {
      can = (
        (
          not_from_true (has_unit q n) (ap (knows n) names ∙ knows-insert n ns at),
          (ap (λ (j : ℕ). any_excludes es j) here ∙ exclusions_free at p.exclusions, tt),
        ),
        tt,
      );
      same =
          ap (λ (j : ℕ). let r : Problem =
          record p { units = remove ys j; exclusions = map (in_exclusion (down j)) es } in r)
          here
          ∙ (λ i. record p {
            units = remove-insert p.units at x le i;
            exclusions =
                exclusions_back at p.exclusions i;
          });
    }

-- terms by name and back to numbers
pub terms_resolved : (p q : Problem) (ts : List Term) → q.materials ≡ p.materials
    → AreApart (material_names p.materials) → AreKnown (length p.materials) ts
    → numbered_terms q (named_terms p ts) ≡ ts
terms_resolved p q [] e apart known = refl
terms_resolved p q (t ∷ ts) e apart known =
    let ns = material_names p.materials in
    let less : t.material < length ns =
    subst (λ j. t.material < j) (sym (length-map p.materials (λ (m : Material). m.name)))
    known.0 in
    let name_is = map-at (λ (m : Material). m.name) p.materials t.material no_material in
    let here : place (material_at p t.material).name (material_names q.materials) ≡ t.material =
    ap (λ ms. place (material_at p t.material).name (material_names ms)) e
    ∙ (ap (λ z. place z ns) (sym name_is) ∙ place-at ns t.material [] apart less) in
    λ i. record { material = here i; rate = t.rate } ∷ terms_resolved p q ts e apart known.1 i

pub terms_known : (p q : Problem) (ts : List Term) → q.materials ≡ p.materials
    → AreKnown (length p.materials) ts → lacks_material q (named_terms p ts) ≡ false
terms_known p q [] e known = refl
terms_known p q (t ∷ ts) e known =
    let ns = material_names p.materials in
    let less : t.material < length ns =
    subst (λ j. t.material < j) (sym (length-map p.materials (λ (m : Material). m.name)))
    known.0 in
    let name_is = map-at (λ (m : Material). m.name) p.materials t.material no_material in
    let z = (material_at p t.material).name in
    let here : knows z (material_names q.materials) ≡ true =
    ap (λ ms. knows z (material_names ms)) e
    ∙ (ap (λ y. knows y ns) (sym name_is) ∙ knows-at ns t.material [] less) in
    or_from (not (has_material q z)) (lacks_material q (named_terms p ts))
    (not_from_true (has_material q z) here) (terms_known p q ts e known.1)

pub insert-removed : {X : Type 0} (xs : List X) (k : ℕ) (x : X) → k < length xs
    → insert (remove xs k) k x ≡ set xs k x
insert-removed [] k x h = absurd (omega arith)
insert-removed (y ∷ ys) zero x h = refl
insert-removed (y ∷ ys) (suc k) x h = ap (λ zs. y ∷ zs) (insert-removed ys k x (omega arith))

-- the unit without investment costs, and the line that gives them back
abbrev uninvested : OperatingUnit → OperatingUnit
uninvested u = record u { investment_fix = pos 0; investment_proportional = pos 0 }

pub no_amount : (z : ℤ) → (unsigned_abs z == 0) ≡ true → z ≡ pos 0
no_amount (pos n) e = ap pos (eqb-true n 0 e)
no_amount (negsuc n) e = let h = eqb-true (suc n) 0 e in absurd (omega arith)

invest_back : (p r : Problem) (n : List ℕ) → has_unit p n ≡ true → r ≡ with_unit p n uninvested
    → (b : Bool) → costs_no_investment (unit_at p (unit_place p n)) ≡ b
    → (let u = unit_at p (unit_place p n) in
    LeadsTo r (cond b [] (investment n u.investment_fix u.investment_proportional ∷ [])) p)
invest_back p r n known e true zeros =
    let k = unit_place p n in
    let u = unit_at p k in
    let z =
    and_parts (unsigned_abs u.investment_fix == 0) (unsigned_abs u.investment_proportional == 0)
    zeros in
    let f = no_amount u.investment_fix z.0 in
    let c = no_amount u.investment_proportional z.1 in
    record {
      can = tt;
      same =
          e ∙ ((λ i. record p {
            units =
                set p.units k
                (record u { investment_fix = sym f i; investment_proportional = sym c i });
          })
          ∙ (λ i. record p { units = set-get_or p.units k no_unit i }));
    }
invest_back p r n known e false zeros =
    let u = unit_at p (unit_place p n) in
    let w =
    unit_back p n uninvested
    (λ v. record v {
      investment_fix = u.investment_fix;
      investment_proportional =
          u.investment_proportional;
    }) known refl refl in
    subst (λ q. LeadsTo q (investment n u.investment_fix u.investment_proportional ∷ []) p)
    (sym e)
    (record {
      can = ((not_from_true (has_unit (with_unit p n uninvested) n) w.0, tt), tt);
      same =
          w.1;
    })

leads_more : (q : Problem) (e : Edit) (es : List Edit) (p : Problem) → AreClear (checks q e)
    → LeadsTo (effect q e) es p → LeadsTo q (e ∷ es) p
leads_more q e es p clear rest = record { can = (clear, rest.can); same = rest.same }

pub remove_unit_back : (p : Problem) → IsSound p → (n : List ℕ) → has_unit p n ≡ true
    → any_excludes p.exclusions (unit_place p n) ≡ false
    → LeadsTo (effect p (remove_unit n)) (inverse p (remove_unit n)) p
remove_unit_back p s n known unused =
    let k = unit_place p n in
    let u = unit_at p k in
    let q = effect p (remove_unit n) in
    let ns = unit_names p.units in
    let less = place_within (λ (v : OperatingUnit). v.name) n p.units known in
    let less_names : k < length ns = place-lt n ns known in
    let named_so = name_at (λ (v : OperatingUnit). v.name) n p.units no_unit known in
    let sound = Each-at (IsSoundUnit (length p.materials)) p.units k no_unit less s.units_sound in
    let ins = terms_resolved p q u.inputs refl s.materials_apart sound.inputs_known in
    let outs = terms_resolved p q u.outputs refl s.materials_apart sound.outputs_known in
    let again : OperatingUnit =
    record {
      name = n;
      lower = u.lower;
      upper = u.upper;
      fix = u.fix;
      proportional =
          u.proportional;
      investment_fix = pos 0;
      investment_proportional = pos 0;
      inputs =
          numbered_terms q (named_terms p u.inputs);
      outputs =
          numbered_terms q (named_terms p u.outputs);
    } in
    let bare : OperatingUnit =
    record u { investment_fix = pos 0; investment_proportional = pos 0 } in
    let is_u : again ≡ bare =
    λ i. record u {
      name = sym named_so i;
      investment_fix = pos 0;
      investment_proportional =
          pos 0;
      inputs = ins i;
      outputs = outs i;
    } in
    let items : insert (remove p.units k) k again ≡ set p.units k bare =
    insert-removed p.units k again less ∙ ap (λ x. set p.units k x) is_u in
    let names = map-remove (λ (v : OperatingUnit). v.name) p.units k in
    let count = length-remove p.units k less in
    let few = s.few_units in
    let gone_now =
    subst (λ z. knows z (remove ns k) ≡ false) (get_or-place n ns [] known)
    (gone ns k [] s.units_apart less_names) in
    let line =
    add_unit k n u.lower u.upper u.fix u.proportional (named_terms p u.inputs)
    (named_terms p u.outputs) in
    let b = costs_no_investment u in
    leads_more q line (cond b [] (investment n u.investment_fix u.investment_proportional ∷ [])) p (
      or_from (lacks_material q (named_terms p u.inputs))
          (lacks_material q (named_terms p u.outputs))
          (terms_known p q u.inputs refl sound.inputs_known)
          (terms_known p q u.outputs refl sound.outputs_known),
      (
        ap (knows n) names ∙ gone_now,
        (
          le-ltb (length (remove p.units k)) k (omega arith),
          (
            sound.ordered,
            (lt-leb 128 (length (remove p.units k)) (omega arith), tt),
          ),
        ),
      ),
    )
    (invest_back p (effect q line) n known
    (λ i. record p { units = items i; exclusions = exclusions_forth k p.exclusions unused i }) b
    refl)

-- ---- exclusions

pub exclude_back : (p : Problem) (at : ℕ) (x : Exclusion)
    → knows x.name (exclusion_names p.exclusions) ≡ false → at ≤ length p.exclusions
    → LeadsTo (record p { exclusions = insert p.exclusions at x }) (unexclude x.name ∷ []) p
exclude_back p at x free le =
    let n = x.name in
    let ys = insert p.exclusions at x in
    let q : Problem = record p { exclusions = ys } in
    let ns = exclusion_names p.exclusions in
    let names = map-insert (λ (x : Exclusion). x.name) p.exclusions at x in
    let le_names : at ≤ length ns =
    subst (λ j. at ≤ j) (sym (length-map p.exclusions (λ (x : Exclusion). x.name))) le in
    let here : exclusion_place q n ≡ at =
    ap (place n) names ∙ place-insert n ns at free le_names in
    record {
      can = (
        (not_from_true (has_exclusion q n) (ap (knows n) names ∙ knows-insert n ns at), tt),
        tt,
      );
      same =
          ap (λ (j : ℕ). let r : Problem = record p { exclusions = remove ys j } in r) here
          ∙ (λ i. record p { exclusions = remove-insert p.exclusions at x le i });
    }

pub places_of_names : (p q : Problem) (xs : List ℕ) → q.units ≡ p.units
    → AreApart (unit_names p.units) → AreBelow (length p.units) xs
    → map (unit_place q) (map (λ u. (unit_at p u).name) xs) ≡ xs
places_of_names p q [] e apart below = refl
places_of_names p q (x ∷ xs) e apart below =
    let ns = unit_names p.units in
    let less : x < length ns =
    subst (λ j. x < j) (sym (length-map p.units (λ (u : OperatingUnit). u.name))) below.0 in
    let z = (unit_at p x).name in
    let here : unit_place q z ≡ x =
    ap (λ us. place z (unit_names us)) e
    ∙ (ap (λ y. place y ns) (sym (map-at (λ (u : OperatingUnit). u.name) p.units x no_unit))
    ∙ place-at ns x [] apart less) in
    λ i. here i ∷ places_of_names p q xs e apart below.1 i

pub members_of_names : (p q : Problem) (xs : List ℕ) → q.units ≡ p.units
    → AreApart (unit_names p.units) → IsRising xs → AreBelow (length p.units) xs
    → members q (map (λ u. (unit_at p u).name) xs) ≡ xs
members_of_names p q xs e apart rising below =
    (λ i. listed (length (e i)) (has (places_of_names p q xs e apart below i)))
    ∙ listed-is (length p.units) xs (record { rising = rising; below = below })

pub names_known : (p q : Problem) (xs : List ℕ) → q.units ≡ p.units → AreBelow (length p.units) xs
    → lacks_unit q (map (λ u. (unit_at p u).name) xs) ≡ false
names_known p q [] e below = refl
names_known p q (x ∷ xs) e below =
    let ns = unit_names p.units in
    let less : x < length ns =
    subst (λ j. x < j) (sym (length-map p.units (λ (u : OperatingUnit). u.name))) below.0 in
    let z = (unit_at p x).name in
    let here : has_unit q z ≡ true =
    ap (λ us. knows z (unit_names us)) e
    ∙ (ap (λ y. knows y ns) (sym (map-at (λ (u : OperatingUnit). u.name) p.units x no_unit))
    ∙ knows-at ns x [] less) in
    or_from (not (has_unit q z)) (lacks_unit q (map (λ u. (unit_at p u).name) xs))
    (not_from_true (has_unit q z) here) (names_known p q xs e below.1)

pub unexclude_back : (p : Problem) → IsSound p → (n : List ℕ) → has_exclusion p n ≡ true
    → LeadsTo (effect p (unexclude n)) (inverse p (unexclude n)) p
unexclude_back p s n known =
    let k = exclusion_place p n in
    let x = exclusion_at p k in
    let q = effect p (unexclude n) in
    let ns = exclusion_names p.exclusions in
    let less = place_within (λ (v : Exclusion). v.name) n p.exclusions known in
    let less_names : k < length ns = place-lt n ns known in
    let named_so = name_at (λ (v : Exclusion). v.name) n p.exclusions no_exclusion known in
    let sound =
    Each-at (IsSoundExclusion (length p.units)) p.exclusions k no_exclusion less
    s.exclusions_sound in
    let us = map (λ u. (unit_at p u).name) x.units in
    let again : Exclusion = record { name = n; units = members q us } in
    let is_x : again ≡ x =
    λ i. record {
      name = sym named_so i;
      units =
          members_of_names p q x.units refl s.units_apart sound.rising sound.below i;
    } in
    let items : insert (remove p.exclusions k) k again ≡ p.exclusions =
    ap (λ y. insert (remove p.exclusions k) k y) is_x
    ∙ insert-remove p.exclusions k no_exclusion less in
    let names = map-remove (λ (v : Exclusion). v.name) p.exclusions k in
    let count = length-remove p.exclusions k less in
    let few = s.few_exclusions in
    let gone_now =
    subst (λ z. knows z (remove ns k) ≡ false) (get_or-place n ns [] known)
    (gone ns k [] s.exclusions_apart less_names) in
    leads_more q (exclude k n us) [] p (
      names_known p q x.units refl sound.below,
      (
        ap (knows n) names ∙ gone_now,
        (
          le-ltb (length (remove p.exclusions k)) k (omega arith),
          (lt-leb 64 (length (remove p.exclusions k)) (omega arith), tt),
        ),
      ),
    )
    (record { can = tt; same = λ i. record p { exclusions = items i } })

-- ---- all edits

pub edit_is_undone : (p : Problem) → IsSound p → (e : Edit) → AreClear (checks p e)
    → LeadsTo (effect p e) (inverse p e) p
edit_is_undone p s (price n v) h =
    let m = material_at p (material_place p n) in
    let w =
    material_back p n (λ m. record m { price = v }) (λ x. record x { price = m.price })
    (not-false (has_material p n) h.0) refl refl in
    record { can = ((not_from_true _ w.0, tt), tt); same = w.1 }
edit_is_undone p s (bounds n low high) h =
    let m = material_at p (material_place p n) in
    let known = not-false (has_material p n) h.0 in
    let w =
    material_back p n (λ m. record m { lower = low; upper = high })
    (λ x. record x { lower = m.lower; upper = m.upper }) known refl refl in
    let less = place_within (λ (m : Material). m.name) n p.materials known in
    record {
      can = (
        (
          not_from_true _ w.0,
          (
            Each-at (λ (m : Material). int_lt m.upper m.lower ≡ false) p.materials
                (material_place p n) no_material less s.ordered,
            tt,
          ),
        ),
        tt,
      );
      same = w.1;
    }
edit_is_undone p s (kind n k) h =
    let m = material_at p (material_place p n) in
    let w =
    material_back p n (λ m. record m { kind = k }) (λ x. record x { kind = m.kind })
    (not-false (has_material p n) h.0) refl refl in
    record {
      can = (
        (
          not_from_true _ w.0,
          (ap (λ (r : Problem). not (has_product r.materials)) w.1 ∙ ap not s.with_product, tt),
        ),
        tt,
      );
      same = w.1;
    }
edit_is_undone p s (capacity n low high) h =
    let u = unit_at p (unit_place p n) in
    let known = not-false (has_unit p n) h.0 in
    let w =
    unit_back p n (λ u. record u { lower = low; upper = high })
    (λ x. record x { lower = u.lower; upper = u.upper }) known refl refl in
    let less = place_within (λ (u : OperatingUnit). u.name) n p.units known in
    record {
      can = (
        (
          not_from_true _ w.0,
          (
            (Each-at (IsSoundUnit (length p.materials)) p.units (unit_place p n) no_unit less
                s.units_sound).ordered,
            tt,
          ),
        ),
        tt,
      );
      same = w.1;
    }
edit_is_undone p s (fix n v) h =
    let u = unit_at p (unit_place p n) in
    let w =
    unit_back p n (λ u. record u { fix = v }) (λ x. record x { fix = u.fix })
    (not-false (has_unit p n) h.0) refl refl in
    record { can = ((not_from_true _ w.0, tt), tt); same = w.1 }
edit_is_undone p s (proportional n v) h =
    let u = unit_at p (unit_place p n) in
    let w =
    unit_back p n (λ u. record u { proportional = v })
    (λ x. record x { proportional = u.proportional }) (not-false (has_unit p n) h.0) refl
    refl in
    record { can = ((not_from_true _ w.0, tt), tt); same = w.1 }
edit_is_undone p s (rename_material old new) h =
    let k = material_place p old in
    let m = material_at p k in
    let known = not-false (has_material p old) h.0 in
    let named_so = name_at (λ (m : Material). m.name) old p.materials no_material known in
    let w =
    rename_back (λ (m : Material). m.name) old new p.materials no_material
    (record m { name = new }) (λ x. record x { name = old }) s.materials_apart known h.1.0 refl
    (λ i. record m { name = sym named_so i }) in
    record {
      can = ((not_from_true _ w.0, (w.1, tt)), tt);
      same =
          λ i. record p { materials = w.2 i };
    }
edit_is_undone p s (rename_unit old new) h =
    let k = unit_place p old in
    let u = unit_at p k in
    let known = not-false (has_unit p old) h.0 in
    let named_so = name_at (λ (u : OperatingUnit). u.name) old p.units no_unit known in
    let w =
    rename_back (λ (u : OperatingUnit). u.name) old new p.units no_unit
    (record u { name = new }) (λ x. record x { name = old }) s.units_apart known h.1.0 refl
    (λ i. record u { name = sym named_so i }) in
    record {
      can = ((not_from_true _ w.0, (w.1, tt)), tt);
      same =
          λ i. record p { units = w.2 i };
    }
edit_is_undone p s (add_material at n k v low high) h =
    add_material_back p s at (record { name = n; kind = k; price = v; lower = low; upper = high })
    h.0 (ltb-false (length p.materials) at h.1.0)
edit_is_undone p s (remove_material n) h =
    remove_material_back p s n (not-false (has_material p n) h.0) h.1.0
edit_is_undone p s (add_unit at n low high f c ins outs) h =
    add_unit_back
    p at (record {
      name = n;
      lower = low;
      upper = high;
      fix = f;
      proportional =
          c;
      investment_fix = pos 0;
      investment_proportional = pos 0;
      inputs =
          numbered_terms p ins;
      outputs = numbered_terms p outs;
    }) h.1.0
    (ltb-false (length p.units) at h.1.1.0)
edit_is_undone p s (remove_unit n) h = remove_unit_back p s n (not-false (has_unit p n) h.0) h.1.0
edit_is_undone p s (exclude at n us) h =
    exclude_back p at (record { name = n; units = members p us }) h.1.0
    (ltb-false (length p.exclusions) at h.1.1.0)
edit_is_undone p s (unexclude n) h = unexclude_back p s n (not-false (has_exclusion p n) h.0)
edit_is_undone p s (investment n f c) h =
    let u = unit_at p (unit_place p n) in
    let w =
    unit_back p n (λ u. record u { investment_fix = f; investment_proportional = c })
    (λ x. record x {
      investment_fix = u.investment_fix;
      investment_proportional =
          u.investment_proportional;
    }) (not-false (has_unit p n) h.0) refl refl in
    record { can = ((not_from_true _ w.0, tt), tt); same = w.1 }
edit_is_undone p s (payout years) h = record { can = (tt, tt); same = refl }
