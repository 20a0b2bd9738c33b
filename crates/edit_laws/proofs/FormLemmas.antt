-- The items of a problem stay good, and inverses are well formed.
use Rattle.std.proofs.Common.{◌≡◌, ℕ, ◌<◌, ◌≤◌, ◌==◌, nat_lt, Bool, true, false, cond, not, ◌||◌}
use Rattle.std.proofs.Common.{List, [], ◌∷◌, length, map, get_or, set, ℤ, pos, refl, sym, ap, ◌∙◌}
use Rattle.std.proofs.Common.{subst, arith}
use Rattle.std.specs.Bool.{Decides}
use Rattle.std.specs.Str.{bytes_eq}
use Rattle.std.proofs.lemmas.List.{length-map}
use Rattle.std.proofs.lemmas.Slice.Eq.{bytes_eq-Decides}
use Rattle.std.proofs.lemmas.Bool.{or_parts, or_from, or_left, or_right, and_from, not-false}
use Rattle.std.proofs.lemmas.Bool.{both_ways, lt-ltb, eqb-true, eq-eqb, eqb-false}
use Rattle.std.proofs.lemmas.Bool.Decides.{Decides-eqb}
use Rattle.edit_rules.specs.number_sets.Sets.{has, IsRising, AreBelow}
use Rattle.edit_rules.proofs.number_sets.Cited.{same_tests, has-listed, below_not_had}
use Rattle.edit_rules.specs.problem_rules.Problem.{Problem, Material, Term, OperatingUnit}
use Rattle.edit_rules.specs.problem_rules.Problem.{Exclusion}
use Rattle.edit_rules.specs.problem_rules.Problem.{no_material, no_unit, no_exclusion, material_at}
use Rattle.edit_rules.specs.problem_rules.Problem.{unit_at}
use Rattle.edit_rules.specs.problem_rules.Problem.{exclusion_at, terms_have, numbers_of, rates_of}
use Rattle.edit_rules.specs.problem_rules.Problem.{material_names, unit_names}
use Rattle.edit_rules.specs.problem_rules.Each.{Each}
use Rattle.edit_rules.specs.problem_rules.WellFormed.{IsInRange, IsBound}
use Rattle.edit_rules.proofs.problem_rules.Cited.{Each-at}
use Rattle.edit_rules.specs.Edit.{NamedTerm, Edit, price, bounds, kind, capacity, fix, proportional}
use Rattle.edit_rules.specs.Edit.{rename_material, rename_unit, add_material, remove_material}
use Rattle.edit_rules.specs.Edit.{add_unit, remove_unit, exclude, unexclude, investment, payout}
use Rattle.edit_rules.specs.Numbering.{up, down, in_term, in_unit, in_exclusion, unit_has}
use Rattle.edit_rules.specs.Numbering.{any_unit_has}
use Rattle.edit_rules.specs.Place.{material_place, unit_place, exclusion_place, has_material}
use Rattle.edit_rules.specs.Place.{has_unit, has_exclusion, numbered_terms, named_terms}
use Rattle.edit_rules.specs.Place.{lacks_material, lacks_unit, members}
use Rattle.edit_rules.specs.Effect.{effect}
use Rattle.edit_rules.specs.Fault.{checks, AreClear}
use Rattle.edit_rules.specs.Formed.{IsName, IsPlace, IsFormed, term_names}
use Rattle.edit_rules.specs.Inverse.{inverse, costs_no_investment}
use Rattle.edit_laws.proofs.Soundness.{IsSoundUnit, IsSoundExclusion, AreKnown}
use Rattle.edit_laws.proofs.Goodness.{same_number, among, double, both, AreSides, IsGoodMaterial}
use Rattle.edit_laws.proofs.Goodness.{IsGoodUnit, IsGoodExclusion, IsGood, IsWell, named_rates}
use Rattle.edit_laws.proofs.Goodness.{AreNames}
use Rattle.edit_laws.proofs.SideLemmas.{no_cost, double_is, among_numbers, sides_from, from_sides}
use Rattle.edit_laws.proofs.ListLemmas.{map-at, Each-insert, Each-remove, Each-set, Each-map}
use Rattle.edit_laws.proofs.NameLemmas.{place, AreApart, get_or-place, place-at}
use Rattle.edit_laws.proofs.NumberLemmas.{down-up, up-down}
use Rattle.edit_laws.proofs.UndoLemmas.{place_within}

-- ---- keys under a mapping that can be undone

module _ {K L : Type 0} (eqK : K → K → Bool) (eqL : L → L → Bool)
    (isK : (a b : K) → Decides (eqK a b) (a ≡ b)) (isL : (a b : L) → Decides (eqL a b) (a ≡ b))
    (f : K → L) (g : L → K) where
  pub eq_mapped : (a b : K) → g (f a) ≡ a → g (f b) ≡ b → eqL (f a) (f b) ≡ eqK a b
  eq_mapped a b p q = same_tests (eqL (f a) (f b)) (eqK a b)
      (λ h. (isK a b).1 (sym p ∙ (ap g ((isL (f a) (f b)).0 h) ∙ q)))
      (λ h. (isL (f a) (f b)).1 (ap f ((isK a b).0 h)))

  pub among_mapped : (x : K) (ks : List K) → g (f x) ≡ x → Each (λ k. g (f k) ≡ k) ks
      → among eqL (f x) (map f ks) ≡ among eqK x ks
  among_mapped x [] p h = refl
  among_mapped x (k ∷ ks) p h = λ i. eq_mapped k x h.0 p i || among_mapped x ks p h.1 i

  pub double_mapped : (ks : List K) → Each (λ k. g (f k) ≡ k) ks
      → double eqL (map f ks) ≡ double eqK ks
  double_mapped [] h = refl
  double_mapped (k ∷ ks) h = λ i. among_mapped k ks h.0 h.1 i || double_mapped ks h.1 i

  pub both_mapped : (ks js : List K) → Each (λ k. g (f k) ≡ k) ks → Each (λ k. g (f k) ≡ k) js
      → both eqL (map f ks) (map f js) ≡ both eqK ks js
  both_mapped ks [] h l = refl
  both_mapped ks (j ∷ js) h l = λ i. among_mapped j ks l.0 h i || both_mapped ks js h l.1 i

  pub sides_mapped : (in_rates out_rates : List ℤ) (ins outs : List K) → Each (λ k. g (f k) ≡ k) ins
      → Each (λ k. g (f k) ≡ k) outs → AreSides eqK in_rates out_rates ins outs
      → AreSides eqL in_rates out_rates (map f ins) (map f outs)
  sides_mapped in_rates out_rates ins outs h l s = record {
    ins_rated = s.ins_rated;
    outs_rated = s.outs_rated;
    ins_once = double_mapped ins h ∙ s.ins_once;
    outs_once = double_mapped outs l ∙ s.outs_once;
    apart = both_mapped ins outs h l ∙ s.apart;
    ins_some = subst (λ n. 0 < n) (sym (length-map ins f)) s.ins_some;
    outs_some = subst (λ n. 0 < n) (sym (length-map outs f)) s.outs_some;
  }

-- ---- units under new numbers

pub numbers_renumbered : (f : ℕ → ℕ) (ts : List Term)
    → numbers_of (map (in_term f) ts) ≡ map f (numbers_of ts)
numbers_renumbered f [] = refl
numbers_renumbered f (t ∷ ts) = ap (λ ns. f t.material ∷ ns) (numbers_renumbered f ts)

pub rates_renumbered : (f : ℕ → ℕ) (ts : List Term) → rates_of (map (in_term f) ts) ≡ rates_of ts
rates_renumbered f [] = refl
rates_renumbered f (t ∷ ts) = ap (λ rs. t.rate ∷ rs) (rates_renumbered f ts)

formed_renumbered : (f g : ℕ → ℕ) (u : OperatingUnit)
    → Each (λ k. g (f k) ≡ k) (numbers_of u.inputs) → Each (λ k. g (f k) ≡ k) (numbers_of u.outputs)
    → IsGoodUnit u → IsGoodUnit (in_unit f u)
formed_renumbered f g u h l s = record {
  named = s.named;
  lower = s.lower;
  upper = s.upper;
  fix = s.fix;
  proportional = s.proportional;
  investment_fix = s.investment_fix;
  investment_proportional = s.investment_proportional;
  sides =
      subst
      (λ (ns : List ℕ). AreSides same_number (rates_of (map (in_term f) u.inputs))
      (rates_of (map (in_term f) u.outputs)) ns (numbers_of (map (in_term f) u.outputs)))
      (sym (numbers_renumbered f u.inputs))
      (subst
      (λ (ns : List ℕ). AreSides same_number (rates_of (map (in_term f) u.inputs))
      (rates_of (map (in_term f) u.outputs)) (map f (numbers_of u.inputs)) ns)
      (sym (numbers_renumbered f u.outputs))
      (subst
      (λ (rs : List ℤ). AreSides same_number rs (rates_of (map (in_term f) u.outputs))
      (map f (numbers_of u.inputs)) (map f (numbers_of u.outputs)))
      (sym (rates_renumbered f u.inputs))
      (subst
      (λ (rs : List ℤ). AreSides same_number (rates_of u.inputs) rs
      (map f (numbers_of u.inputs)) (map f (numbers_of u.outputs)))
      (sym (rates_renumbered f u.outputs))
      (sides_mapped same_number same_number Decides-eqb Decides-eqb f g (rates_of u.inputs)
      (rates_of u.outputs) (numbers_of u.inputs) (numbers_of u.outputs) h l s.sides))));
}

each_back : (k : ℕ) (xs : List ℕ) → Each (λ x. down k (up k x) ≡ x) xs
each_back k [] = tt
each_back k (x ∷ xs) = (down-up k x, each_back k xs)

each_forth : (k : ℕ) (xs : List ℕ) → among same_number k xs ≡ false
    → Each (λ x. up k (down k x) ≡ x) xs
each_forth k [] e = tt
each_forth k (x ∷ xs) e = let p = or_parts (x == k) (among same_number k xs) e in
    (up-down k x (eqb-false x k p.0), each_forth k xs p.1)

pub formed_up : (k : ℕ) (u : OperatingUnit) → IsGoodUnit u → IsGoodUnit (in_unit (up k) u)
formed_up k u s =
    formed_renumbered (up k) (down k) u (each_back k (numbers_of u.inputs))
    (each_back k (numbers_of u.outputs)) s

pub formed_down : (k : ℕ) (us : List OperatingUnit) → any_unit_has us k ≡ false → Each IsGoodUnit us
    → Each IsGoodUnit (map (in_unit (down k)) us)
formed_down k [] e h = tt
formed_down k (u ∷ us) e h =
    let p = or_parts (unit_has u k) (any_unit_has us k) e in
    let q = or_parts (terms_have u.inputs k) (terms_have u.outputs k) p.0 in (
      formed_renumbered (down k) (up k) u
          (each_forth k (numbers_of u.inputs) (among_numbers k u.inputs ∙ q.0))
          (each_forth k (numbers_of u.outputs) (among_numbers k u.outputs ∙ q.1)) h.0,
      formed_down k us p.1 h.1,
    )

-- ---- terms by name and by number

numbers_resolved : (p : Problem) (ts : List NamedTerm)
    → numbers_of (numbered_terms p ts) ≡ map (material_place p) (term_names ts)
numbers_resolved p [] = refl
numbers_resolved p (t ∷ ts) = ap (λ ns. material_place p t.name ∷ ns) (numbers_resolved p ts)

rates_resolved : (p : Problem) (ts : List NamedTerm)
    → rates_of (numbered_terms p ts) ≡ named_rates ts
rates_resolved p [] = refl
rates_resolved p (t ∷ ts) = ap (λ rs. t.rate ∷ rs) (rates_resolved p ts)

names_named : (p : Problem) (ts : List Term)
    → term_names (named_terms p ts) ≡ map (λ k. (material_at p k).name) (numbers_of ts)
names_named p [] = refl
names_named p (t ∷ ts) = ap (λ ns. (material_at p t.material).name ∷ ns) (names_named p ts)

rates_named : (p : Problem) (ts : List Term) → named_rates (named_terms p ts) ≡ rates_of ts
rates_named p [] = refl
rates_named p (t ∷ ts) = ap (λ rs. t.rate ∷ rs) (rates_named p ts)

-- the name at a place, and the place of a name
place_back : (p : Problem) (ts : List NamedTerm) → lacks_material p ts ≡ false
    → Each (λ n. get_or (material_names p.materials) (material_place p n) [] ≡ n) (term_names ts)
place_back p [] e = tt
place_back p (t ∷ ts) e =
    let h = or_parts (not (has_material p t.name)) (lacks_material p ts) e in (
      get_or-place t.name (material_names p.materials) [] (not-false (has_material p t.name) h.0),
      place_back p ts h.1,
    )

name_back : (p : Problem) (ts : List Term) → AreApart (material_names p.materials)
    → AreKnown (length p.materials) ts
    → Each (λ k. material_place p (material_at p k).name ≡ k) (numbers_of ts)
name_back p [] a h = tt
name_back p (t ∷ ts) a h =
    let ns = material_names p.materials in
    let less : t.material < length ns =
    subst (λ j. t.material < j) (sym (length-map p.materials (λ (m : Material). m.name))) h.0 in (
      ap (λ z. place z ns)
          (sym (map-at (λ (m : Material). m.name) p.materials t.material no_material))
          ∙ place-at ns t.material [] a less,
      name_back p ts a h.1,
    )

sides_numbered : (p : Problem) (ins outs : List NamedTerm) → lacks_material p ins ≡ false
    → lacks_material p outs ≡ false
    → AreSides bytes_eq (named_rates ins) (named_rates outs) (term_names ins) (term_names outs)
    → AreSides same_number (rates_of (numbered_terms p ins)) (rates_of (numbered_terms p outs))
    (numbers_of (numbered_terms p ins)) (numbers_of (numbered_terms p outs))
sides_numbered p ins outs h l s =
    let now =
    sides_mapped bytes_eq same_number bytes_eq-Decides Decides-eqb (material_place p)
    (λ k. get_or (material_names p.materials) k []) (named_rates ins) (named_rates outs)
    (term_names ins) (term_names outs) (place_back p ins h) (place_back p outs l) s in
    let P = λ (a b : List ℤ) (c d : List ℕ). AreSides same_number a b c d in
    subst
    (λ (c : List ℕ). P (rates_of (numbered_terms p ins)) (rates_of (numbered_terms p outs)) c
    (numbers_of (numbered_terms p outs))) (sym (numbers_resolved p ins))
    (subst
    (λ (d : List ℕ). P (rates_of (numbered_terms p ins)) (rates_of (numbered_terms p outs))
    (map (material_place p) (term_names ins)) d) (sym (numbers_resolved p outs))
    (subst
    (λ (a : List ℤ). P a (rates_of (numbered_terms p outs))
    (map (material_place p) (term_names ins)) (map (material_place p) (term_names outs)))
    (sym (rates_resolved p ins))
    (subst
    (λ (b : List ℤ). P (named_rates ins) b (map (material_place p) (term_names ins))
    (map (material_place p) (term_names outs))) (sym (rates_resolved p outs)) now)))

sides_named : (p : Problem) (ins outs : List Term) → AreApart (material_names p.materials)
    → AreKnown (length p.materials) ins → AreKnown (length p.materials) outs
    → AreSides same_number (rates_of ins) (rates_of outs) (numbers_of ins) (numbers_of outs)
    → AreSides bytes_eq (named_rates (named_terms p ins)) (named_rates (named_terms p outs))
    (term_names (named_terms p ins)) (term_names (named_terms p outs))
sides_named p ins outs a h l s =
    let f = λ (k : ℕ). (material_at p k).name in
    let now =
    sides_mapped same_number bytes_eq Decides-eqb bytes_eq-Decides f (material_place p)
    (rates_of ins) (rates_of outs) (numbers_of ins) (numbers_of outs) (name_back p ins a h)
    (name_back p outs a l) s in
    let P = λ (a b : List ℤ) (c d : List (List ℕ)). AreSides bytes_eq a b c d in
    subst
    (λ (c : List (List ℕ)). P (named_rates (named_terms p ins))
    (named_rates (named_terms p outs)) c (term_names (named_terms p outs)))
    (sym (names_named p ins))
    (subst
    (λ (d : List (List ℕ)). P (named_rates (named_terms p ins))
    (named_rates (named_terms p outs)) (map f (numbers_of ins)) d) (sym (names_named p outs))
    (subst
    (λ (a : List ℤ). P a (named_rates (named_terms p outs)) (map f (numbers_of ins))
    (map f (numbers_of outs))) (sym (rates_named p ins))
    (subst (λ (b : List ℤ). P (rates_of ins) b (map f (numbers_of ins)) (map f (numbers_of outs)))
    (sym (rates_named p outs)) now)))

names_of_terms : (p : Problem) → Each IsGoodMaterial p.materials → (ts : List Term)
    → AreKnown (length p.materials) ts → AreNames (term_names (named_terms p ts))
names_of_terms p m [] h = tt
names_of_terms p m (t ∷ ts) h = (
  (Each-at IsGoodMaterial p.materials t.material no_material h.0 m).named,
  names_of_terms p m ts h.1,
)

-- ---- exclusions

two_in : (xs : List ℕ) (a b : ℕ) → has xs a ≡ true → has xs b ≡ true → (a ≡ b → ⊥) → 2 ≤ length xs
two_in [] a b h l ne = absurd (both_ways true (sym h) refl)
two_in (x ∷ []) a b h l ne =
    absurd (ne (sym (eqb-true x a (only (x == a) h)) ∙ eqb-true x b (only (x == b) l)))
  where
    only : (t : Bool) → (t || false) ≡ true → t ≡ true
    only true e = refl
    only false e = e
two_in (x ∷ y ∷ ys) a b h l ne = omega arith

known_in : (p : Problem) (us : List (List ℕ)) (n : List ℕ) → has_unit p n ≡ true
    → has (map (unit_place p) us) (unit_place p n) ≡ true
    → has (members p us) (unit_place p n) ≡ true
known_in p us n known h =
    let less = place_within (λ (u : OperatingUnit). u.name) n p.units known in
    has-listed (length p.units) (has (map (unit_place p) us)) (unit_place p n)
    ∙ and_from (nat_lt (unit_place p n) (length p.units))
    (has (map (unit_place p) us) (unit_place p n))
    (lt-ltb (unit_place p n) (length p.units) less) h

enough_members : (p : Problem) (us : List (List ℕ)) → lacks_unit p us ≡ false → 2 ≤ length us
    → double bytes_eq us ≡ false → 2 ≤ length (members p us)
enough_members p [] e h l = absurd (omega arith)
enough_members p (a ∷ []) e h l = absurd (omega arith)
enough_members p (a ∷ b ∷ us) e h l =
    let ns = unit_names p.units in
    let rest = lacks_unit p us in
    let ea = or_parts (not (has_unit p a)) (not (has_unit p b) || rest) e in
    let eb = or_parts (not (has_unit p b)) rest ea.1 in
    let known_a = not-false (has_unit p a) ea.0 in
    let known_b = not-false (has_unit p b) eb.0 in
    let d = or_parts (among bytes_eq a (b ∷ us)) (double bytes_eq (b ∷ us)) l in
    let ba = (or_parts (bytes_eq b a) (among bytes_eq a us) d.0).0 in
    let pa = unit_place p a in
    let pb = unit_place p b in
    let all = map (unit_place p) us in
    let apart : pa ≡ pb → ⊥ =
    λ same. both_ways (bytes_eq b a) ba
    ((bytes_eq-Decides b a).1
    (sym (get_or-place b ns [] known_b)
    ∙ (ap (λ k. get_or ns k []) (sym same) ∙ get_or-place a ns [] known_a))) in
    two_in (members p (a ∷ b ∷ us)) pa pb
    (known_in p (a ∷ b ∷ us) a known_a (or_left (pa == pa) (has (pb ∷ all) pa) (eq-eqb pa pa refl)))
    (known_in p (a ∷ b ∷ us) b known_b
    (or_right (pa == pb) (has (pb ∷ all) pb)
    (or_left (pb == pb) (has all pb) (eq-eqb pb pb refl))))
    apart

among_has : (xs : List ℕ) (x : ℕ) → among same_number x xs ≡ has xs x
among_has [] x = refl
among_has (y ∷ ys) x = ap (λ b. (y == x) || b) (among_has ys x)

rising_once : (xs : List ℕ) → IsRising xs → double same_number xs ≡ false
rising_once [] r = refl
rising_once (x ∷ xs) r =
    or_from (among same_number x xs) (double same_number xs)
    (among_has xs x ∙ below_not_had x x xs (omega arith) r.0) (rising_once xs r.1)

unit_name_back : (p : Problem) (xs : List ℕ) → AreApart (unit_names p.units)
    → AreBelow (length p.units) xs → Each (λ k. unit_place p (unit_at p k).name ≡ k) xs
unit_name_back p [] a h = tt
unit_name_back p (x ∷ xs) a h =
    let ns = unit_names p.units in
    let less : x < length ns =
    subst (λ j. x < j) (sym (length-map p.units (λ (u : OperatingUnit). u.name))) h.0 in (
      ap (λ z. place z ns) (sym (map-at (λ (u : OperatingUnit). u.name) p.units x no_unit))
          ∙ place-at ns x [] a less,
      unit_name_back p xs a h.1,
    )

names_of_units : (p : Problem) → Each IsGoodUnit p.units → (xs : List ℕ)
    → AreBelow (length p.units) xs → AreNames (map (λ k. (unit_at p k).name) xs)
names_of_units p f [] h = tt
names_of_units p f (x ∷ xs) h =
    ((Each-at IsGoodUnit p.units x no_unit h.0 f).named, names_of_units p f xs h.1)

exclusion_renumbered : (f : ℕ → ℕ) (x : Exclusion) → IsGoodExclusion x
    → IsGoodExclusion (in_exclusion f x)
exclusion_renumbered f x h =
    record { named = h.named; enough = subst (λ j. 2 ≤ j) (sym (length-map x.units f)) h.enough }

-- ---- what is known of the item that an edit names

material_formed : (p : Problem) → IsWell p → (n : List ℕ) → not (has_material p n) ≡ false
    → IsGoodMaterial (material_at p (material_place p n))
material_formed p w n e =
    Each-at IsGoodMaterial p.materials (material_place p n) no_material
    (place_within (λ (m : Material). m.name) n p.materials (not-false (has_material p n) e))
    w.good.materials

unit_formed : (p : Problem) → IsWell p → (n : List ℕ) → not (has_unit p n) ≡ false
    → IsGoodUnit (unit_at p (unit_place p n))
unit_formed p w n e =
    Each-at IsGoodUnit p.units (unit_place p n) no_unit
    (place_within (λ (u : OperatingUnit). u.name) n p.units (not-false (has_unit p n) e))
    w.good.units

with_materials : (p : Problem) → IsWell p → (ms : List Material) → Each IsGoodMaterial ms
    → IsGood (record p { materials = ms })
with_materials p w ms h = let f = w.good in
    record {
      materials = h;
      units = f.units;
      exclusions = f.exclusions;
      payout_positive =
          f.payout_positive;
      payout_limit = f.payout_limit;
    }

with_units : (p : Problem) → IsWell p → (us : List OperatingUnit) → Each IsGoodUnit us
    → IsGood (record p { units = us })
with_units p w us h = let f = w.good in
    record {
      materials = f.materials;
      units = h;
      exclusions = f.exclusions;
      payout_positive =
          f.payout_positive;
      payout_limit = f.payout_limit;
    }

material_set : (p : Problem) → IsWell p → (k : ℕ) (x : Material) → IsGoodMaterial x
    → IsGood (record p { materials = set p.materials k x })
material_set p w k x h =
    with_materials p w (set p.materials k x)
    (Each-set IsGoodMaterial p.materials k x h w.good.materials)

unit_set : (p : Problem) → IsWell p → (k : ℕ) (x : OperatingUnit) → IsGoodUnit x
    → IsGood (record p { units = set p.units k x })
unit_set p w k x h =
    with_units p w (set p.units k x) (Each-set IsGoodUnit p.units k x h w.good.units)

-- ---- all edits

pub stays_formed : (p : Problem) → IsWell p → (e : Edit) → IsFormed e → AreClear (checks p e)
    → IsGood (effect p e)
stays_formed p w (price n v) g h =
    let k = material_place p n in
    let m = material_formed p w n h.0 in
    material_set p w k (record (material_at p k) { price = v })
    (record { named = m.named; price = g.1; lower = m.lower; upper = m.upper })
stays_formed p w (bounds n low high) g h =
    let k = material_place p n in
    let m = material_formed p w n h.0 in
    material_set p w k (record (material_at p k) { lower = low; upper = high })
    (record {
      named = m.named;
      price = m.price;
      lower = g.1.lower_bound;
      upper =
          g.1.upper_bound;
    })
stays_formed p w (kind n kd) g h =
    let k = material_place p n in
    let m = material_formed p w n h.0 in
    material_set p w k (record (material_at p k) { kind = kd })
    (record { named = m.named; price = m.price; lower = m.lower; upper = m.upper })
stays_formed p w (capacity n low high) g h =
    let k = unit_place p n in
    let u = unit_formed p w n h.0 in
    unit_set p w k (record (unit_at p k) { lower = low; upper = high })
    (record {
      named = u.named;
      lower = g.1.lower_bound;
      upper = g.1.upper_bound;
      fix =
          u.fix;
      proportional = u.proportional;
      investment_fix =
          u.investment_fix;
      investment_proportional = u.investment_proportional;
      sides = u.sides;
    })
stays_formed p w (fix n v) g h =
    let k = unit_place p n in
    let u = unit_formed p w n h.0 in
    unit_set p w k (record (unit_at p k) { fix = v })
    (record {
      named = u.named;
      lower = u.lower;
      upper = u.upper;
      fix = g.1;
      proportional =
          u.proportional;
      investment_fix = u.investment_fix;
      investment_proportional =
          u.investment_proportional;
      sides = u.sides;
    })
stays_formed p w (proportional n v) g h =
    let k = unit_place p n in
    let u = unit_formed p w n h.0 in
    unit_set p w k (record (unit_at p k) { proportional = v })
    (record {
      named = u.named;
      lower = u.lower;
      upper = u.upper;
      fix = u.fix;
      proportional =
          g.1;
      investment_fix = u.investment_fix;
      investment_proportional =
          u.investment_proportional;
      sides = u.sides;
    })
stays_formed p w (rename_material old new) g h =
    let k = material_place p old in
    let m = material_formed p w old h.0 in
    material_set p w k (record (material_at p k) { name = new })
    (record { named = g.1; price = m.price; lower = m.lower; upper = m.upper })
stays_formed p w (rename_unit old new) g h =
    let k = unit_place p old in
    let u = unit_formed p w old h.0 in
    unit_set p w k (record (unit_at p k) { name = new })
    (record {
      named = g.1;
      lower = u.lower;
      upper = u.upper;
      fix = u.fix;
      proportional =
          u.proportional;
      investment_fix = u.investment_fix;
      investment_proportional =
          u.investment_proportional;
      sides = u.sides;
    })
stays_formed p w (add_material at n kd v low high) g h =
    let f = w.good in
    let x : Material = record { name = n; kind = kd; price = v; lower = low; upper = high } in
    record {
      materials =
          Each-insert IsGoodMaterial p.materials at x
          (record {
            named = g.named;
            price = g.price_in_range;
            lower = g.bounds.lower_bound;
            upper =
                g.bounds.upper_bound;
          }) f.materials;
      units = Each-map IsGoodUnit IsGoodUnit (in_unit (up at)) p.units (formed_up at) f.units;
      exclusions = f.exclusions;
      payout_positive = f.payout_positive;
      payout_limit = f.payout_limit;
    }
stays_formed p w (remove_material n) g h =
    let f = w.good in
    record {
      materials = Each-remove IsGoodMaterial p.materials (material_place p n) f.materials;
      units = formed_down (material_place p n) p.units h.1.0 f.units;
      exclusions = f.exclusions;
      payout_positive = f.payout_positive;
      payout_limit = f.payout_limit;
    }
stays_formed p w (add_unit at n low high fx c ins outs) g h =
    let f = w.good in
    let terms = or_parts (lacks_material p ins) (lacks_material p outs) h.0 in
    let x : OperatingUnit =
    record {
      name = n;
      lower = low;
      upper = high;
      fix = fx;
      proportional = c;
      investment_fix =
          pos 0;
      investment_proportional = pos 0;
      inputs = numbered_terms p ins;
      outputs =
          numbered_terms p outs;
    } in
    record {
      materials = f.materials;
      units =
          Each-insert IsGoodUnit p.units at x
          (record {
            named = g.named;
            lower = g.bounds.lower_bound;
            upper =
                g.bounds.upper_bound;
            fix = g.fix_bound;
            proportional =
                g.proportional_in_range;
            investment_fix = no_cost;
            investment_proportional =
                no_cost.in_range;
            sides =
                sides_numbered p ins outs terms.0 terms.1 (sides_from ins outs g.sides);
          }) f.units;
      exclusions =
          Each-map IsGoodExclusion IsGoodExclusion (in_exclusion (up at)) p.exclusions
          (exclusion_renumbered (up at)) f.exclusions;
      payout_positive = f.payout_positive;
      payout_limit = f.payout_limit;
    }
stays_formed p w (remove_unit n) g h =
    let f = w.good in
    record {
      materials = f.materials;
      units = Each-remove IsGoodUnit p.units (unit_place p n) f.units;
      exclusions =
          Each-map IsGoodExclusion IsGoodExclusion (in_exclusion (down (unit_place p n)))
          p.exclusions (exclusion_renumbered (down (unit_place p n))) f.exclusions;
      payout_positive = f.payout_positive;
      payout_limit = f.payout_limit;
    }
stays_formed p w (exclude at n us) g h =
    let f = w.good in
    let x : Exclusion = record { name = n; units = members p us } in
    record {
      materials = f.materials;
      units = f.units;
      exclusions =
          Each-insert IsGoodExclusion p.exclusions at x
          (record {
            named = g.named;
            enough =
                enough_members p us h.0 g.enough (double_is us ∙ g.once);
          }) f.exclusions;
      payout_positive = f.payout_positive;
      payout_limit = f.payout_limit;
    }
stays_formed p w (unexclude n) g h =
    let f = w.good in
    record {
      materials = f.materials;
      units = f.units;
      exclusions = Each-remove IsGoodExclusion p.exclusions (exclusion_place p n) f.exclusions;
      payout_positive = f.payout_positive;
      payout_limit = f.payout_limit;
    }
stays_formed p w (investment n fx c) g h =
    let k = unit_place p n in
    let u = unit_formed p w n h.0 in
    unit_set p w k (record (unit_at p k) { investment_fix = fx; investment_proportional = c })
    (record {
      named = u.named;
      lower = u.lower;
      upper = u.upper;
      fix = u.fix;
      proportional =
          u.proportional;
      investment_fix = g.1;
      investment_proportional = g.2;
      sides = u.sides;
    })
stays_formed p w (payout years) g h =
    let f = w.good in
    record {
      materials = f.materials;
      units = f.units;
      exclusions =
          f.exclusions;
      payout_positive = g.positive;
      payout_limit = g.limit;
    }

-- the place of an item in a problem can be written in a script
written : (k n limit : ℕ) → k < n → n ≤ limit → limit ≤ 256 → IsPlace k
written k n limit less few small = omega arith

pub inverse_formed : (p : Problem) → IsWell p → (e : Edit) → IsFormed e → AreClear (checks p e)
    → Each IsFormed (inverse p e)
inverse_formed p w (price n v) g h = ((g.0, (material_formed p w n h.0).price), tt)
inverse_formed p w (bounds n low high) g h =
    let m = material_formed p w n h.0 in
    ((g.0, record { lower_bound = m.lower; upper_bound = m.upper }), tt)
inverse_formed p w (kind n kd) g h = (g, tt)
inverse_formed p w (capacity n low high) g h =
    let u = unit_formed p w n h.0 in
    ((g.0, record { lower_bound = u.lower; upper_bound = u.upper }), tt)
inverse_formed p w (fix n v) g h = ((g.0, (unit_formed p w n h.0).fix), tt)
inverse_formed p w (proportional n v) g h = ((g.0, (unit_formed p w n h.0).proportional), tt)
inverse_formed p w (rename_material old new) g h = ((g.1, g.0), tt)
inverse_formed p w (rename_unit old new) g h = ((g.1, g.0), tt)
inverse_formed p w (add_material at n kd v low high) g h = (g.named, tt)
inverse_formed p w (remove_material n) g h =
    let m = material_formed p w n h.0 in
    let less =
    place_within (λ (m : Material). m.name) n p.materials (not-false (has_material p n) h.0) in (
      record {
        place =
            written (material_place p n) (length p.materials) 256 less w.sound.few_materials
            (omega arith);
        named = g;
        price_in_range = m.price;
        bounds =
            record { lower_bound = m.lower; upper_bound = m.upper };
      },
      tt,
    )
inverse_formed p w (add_unit at n low high fx c ins outs) g h = (g.named, tt)
inverse_formed p w (remove_unit n) g h =
    let k = unit_place p n in
    let u = unit_at p k in
    let f = unit_formed p w n h.0 in
    let less =
    place_within (λ (v : OperatingUnit). v.name) n p.units (not-false (has_unit p n) h.0) in
    let sound =
    Each-at (IsSoundUnit (length p.materials)) p.units k no_unit less w.sound.units_sound in
    let ins = names_of_terms p w.good.materials u.inputs sound.inputs_known in
    let outs = names_of_terms p w.good.materials u.outputs sound.outputs_known in
    let sides =
    sides_named p u.inputs u.outputs w.sound.materials_apart sound.inputs_known
    sound.outputs_known f.sides in (
      record {
        place = written k (length p.units) 128 less w.sound.few_units (omega arith);
        named = g;
        bounds = record { lower_bound = f.lower; upper_bound = f.upper };
        fix_bound = f.fix;
        proportional_in_range = f.proportional;
        sides = from_sides (named_terms p u.inputs) (named_terms p u.outputs) ins outs sides;
      },
      invested (costs_no_investment u) n u.investment_fix u.investment_proportional
          (g, f.investment_fix, f.investment_proportional),
    )
  where
    invested : (b : Bool) (n : List ℕ) (f c : ℤ) → IsName n × IsBound f × IsInRange c
        → Each IsFormed (cond b [] (investment n f c ∷ []))
    invested true n f c g = tt
    invested false n f c g = (g, tt)
inverse_formed p w (exclude at n us) g h = (g.named, tt)
inverse_formed p w (unexclude n) g h =
    let k = exclusion_place p n in
    let x = exclusion_at p k in
    let less =
    place_within (λ (v : Exclusion). v.name) n p.exclusions
    (not-false (has_exclusion p n) h.0) in
    let f = Each-at IsGoodExclusion p.exclusions k no_exclusion less w.good.exclusions in
    let s =
    Each-at (IsSoundExclusion (length p.units)) p.exclusions k no_exclusion less
    w.sound.exclusions_sound in
    let name = λ (k : ℕ). (unit_at p k).name in (
      record {
        place = written k (length p.exclusions) 64 less w.sound.few_exclusions (omega arith);
        named = g;
        members_named = names_of_units p w.good.units x.units s.below;
        enough = subst (λ j. 2 ≤ j) (sym (length-map x.units name)) f.enough;
        once = sym (double_is (map name x.units))
            ∙ (double_mapped same_number bytes_eq Decides-eqb bytes_eq-Decides name (unit_place p)
            x.units (unit_name_back p x.units w.sound.units_apart s.below)
            ∙ rising_once x.units s.rising);
      },
      tt,
    )
inverse_formed p w (investment n fx c) g h = let u =
    unit_formed p w n h.0 in ((g.0, u.investment_fix, u.investment_proportional), tt)
inverse_formed p w (payout years) g h =
    (record { positive = w.good.payout_positive; limit = w.good.payout_limit }, tt)
