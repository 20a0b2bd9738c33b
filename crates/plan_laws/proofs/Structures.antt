-- The solution structures of an expanded problem are the families of solution structures of the
-- plant, one for each period, with the units that build their union.
use Rattle.std.proofs.Common.{◌≡◌, ◌<◌, ◌≤◌, ◌+◌, ◌*◌, ◌||◌, ℕ, Bool, true, false, List, [], ◌∷◌}
use Rattle.std.proofs.Common.{length, refl, sym, ap, subst, ◌∙◌, inl, inr, ◌⊎◌, arith}
use Rattle.std.proofs.lemmas.Bool.{or_cases, or_left, or_right, true≢false, both_ways}
use Rattle.std.proofs.lemmas.Bool.{false_from_ne_true, true_from_ne_false}
use Rattle.plan_rules.specs.number_sets.Sets.{any_below}
use Rattle.plan_rules.proofs.number_sets.Cited.{any_below-from, any_below-some, same_tests}
use Rattle.plan_rules.specs.problem_rules.Problem.{Problem, Material, material_at, is_raw_material}
use Rattle.plan_rules.specs.problem_rules.Problem.{is_product}
use Rattle.plan_rules.specs.pns_rules.Shape.{Shape, shape_of, IsProper}
use Rattle.plan_rules.specs.pns_rules.Structure.{is_made, is_used, mats, IsPath, HasPath, Meets}
use Rattle.plan_rules.specs.pns_rules.Structure.{IsStructure}
use Rattle.plan_rules.specs.pns_rules.Structure.{Clashes, IsAllowed}
use Rattle.plan_rules.proofs.pns_rules.Cited.{is_made-from, is_made-some, is_used-from}
use Rattle.plan_rules.proofs.pns_rules.Cited.{is_used-some, a_maker}
use Rattle.plan_rules.proofs.pns_rules.Cited.{used_in}
use Rattle.plan_rules.specs.Expanded.{copy_of, capacity_of, expanded}
use Rattle.plan_rules.specs.Plan.{Plan}
use Rattle.plan_rules.specs.Folded.{running_number}
use Rattle.plan_laws.specs.DesignLaws.{Runs}
use Rattle.plan_laws.proofs.Places.{unit_count, site_at, copy_at, capacity_at, UnitPlace}
use Rattle.plan_laws.proofs.Places.{is_built, is_running, unit_place, MaterialPlace, is_site}
use Rattle.plan_laws.proofs.Places.{is_copy, is_capacity, material_place, same_running}
use Rattle.plan_laws.proofs.Arcs.{built_uses_site, built_uses, built_makes_capacity, built_makes}
use Rattle.plan_laws.proofs.Arcs.{running_uses_copy, running_uses_capacity, running_uses}
use Rattle.plan_laws.proofs.Arcs.{running_makes_copy, running_makes, built_uses_no_copy}
use Rattle.plan_laws.proofs.Arcs.{built_makes_no_copy, running_uses_its, running_makes_its}
use Rattle.plan_laws.proofs.Arcs.{built_uses_no_capacity, built_makes_its}
use Rattle.plan_laws.proofs.Arcs.{running_uses_its_capacity, running_makes_no_capacity}
use Rattle.plan_laws.proofs.Arcs.{built_makes_no_site, running_uses_no_site}
use Rattle.plan_laws.proofs.Arcs.{running_makes_no_site}

module _ (p : Problem) (plan : Plan) (proper : IsProper (shape_of p))
    (proper' : IsProper (shape_of (expanded p plan))) (s : ℕ → Bool) (runs : ℕ → ℕ → Bool)
    (same : Runs p plan s runs) where
  abbrev n : ℕ
  n = length p.units

  abbrev m : ℕ
  m = length p.materials

  abbrev periods : ℕ
  periods = length plan.periods

  abbrev g : Shape
  g = shape_of (expanded p plan)

  abbrev h : Shape
  h = shape_of p

  built_in : (i : ℕ) → i < n → i < g.units
  built_in i lt = let count = unit_count p plan in omega (arith, count, lt)

  running_in : (t i : ℕ) → t < periods → i < n → s (running_number p t i) ≡ true
      → running_number p t i < g.units
  running_in t i lt less e = same.known (running_number p t i) e

  -- ---- materials of the plant in a period

  used_there : (t j : ℕ) → t < periods → j < m → is_used g s (copy_of p t j) ≡ true
      → is_used h (runs t) j ≡ true
  used_there t j lt less e =
      let k = is_used-some g s (copy_of p t j) e in
      elim (unit_place p plan k.0 k.1) as (λ _. is_used h (runs t) j ≡ true) [
        | is_built i known is
            ↦ absurd
            (built_uses_no_copy p plan proper t i j known
            (subst (λ u. g.uses u (copy_of p t j) ≡ true) is k.3))
        | is_running r i before known is ↦
            let its =
            running_uses_its p plan proper r t i j before known less
            (subst (λ u. g.uses u (copy_of p t j) ≡ true) is k.3) in
            let runs_it : runs r i ≡ true =
            sym (same.running r i before known) ∙ subst (λ u. s u ≡ true) is k.2 in
            is_used-from h (runs t) i j known (subst (λ q. runs q i ≡ true) its.0 runs_it) its.1
      ]

  used_back : (t j : ℕ) → t < periods → is_used h (runs t) j ≡ true
      → is_used g s (copy_of p t j) ≡ true
  used_back t j lt e =
      let k = is_used-some h (runs t) j e in
      let in_it : s (running_number p t k.0) ≡ true = same.running t k.0 lt k.1 ∙ k.2 in
      is_used-from g s (running_number p t k.0) (copy_of p t j) (running_in t k.0 lt k.1 in_it)
      in_it (running_uses_copy p plan proper t k.0 j lt k.1 k.3)

  made_there : (t j : ℕ) → t < periods → j < m → is_made g s (copy_of p t j) ≡ true
      → is_made h (runs t) j ≡ true
  made_there t j lt less e =
      let k = is_made-some g s (copy_of p t j) e in
      elim (unit_place p plan k.0 k.1) as (λ _. is_made h (runs t) j ≡ true) [
        | is_built i known is
            ↦ absurd
            (built_makes_no_copy p plan proper t i j known less
            (subst (λ u. g.makes u (copy_of p t j) ≡ true) is k.3))
        | is_running r i before known is ↦
            let its =
            running_makes_its p plan proper r t i j before known less
            (subst (λ u. g.makes u (copy_of p t j) ≡ true) is k.3) in
            let runs_it : runs r i ≡ true =
            sym (same.running r i before known) ∙ subst (λ u. s u ≡ true) is k.2 in
            is_made-from h (runs t) i j known (subst (λ q. runs q i ≡ true) its.0 runs_it) its.1
      ]

  made_back : (t j : ℕ) → t < periods → is_made h (runs t) j ≡ true
      → is_made g s (copy_of p t j) ≡ true
  made_back t j lt e =
      let k = is_made-some h (runs t) j e in
      let in_it : s (running_number p t k.0) ≡ true = same.running t k.0 lt k.1 ∙ k.2 in
      is_made-from g s (running_number p t k.0) (copy_of p t j) (running_in t k.0 lt k.1 in_it)
      in_it (running_makes_copy p plan proper t k.0 j lt k.1 k.3)

  pub made_copy : (t j : ℕ) → t < periods → j < m
      → is_made g s (copy_of p t j) ≡ is_made h (runs t) j
  made_copy t j lt less =
      same_tests (is_made g s (copy_of p t j)) (is_made h (runs t) j) (made_there t j lt less)
      (made_back t j lt)

  pub mats_copy : (t j : ℕ) → t < periods → j < m → mats g s (copy_of p t j) ≡ mats h (runs t) j
  mats_copy t j lt less =
      let used =
      same_tests (is_used g s (copy_of p t j)) (is_used h (runs t) j) (used_there t j lt less)
      (used_back t j lt) in
      λ i. used i || made_copy t j lt less i

  raw_copy : (t j : ℕ) → t < periods → j < m → g.raw (copy_of p t j) ≡ h.raw j
  raw_copy t j lt less = ap (λ (x : Material). is_raw_material x.kind) (copy_at p plan t j lt less)

  product_copy : (t j : ℕ) → t < periods → j < m → g.product (copy_of p t j) ≡ h.product j
  product_copy t j lt less = ap (λ (x : Material). is_product x.kind) (copy_at p plan t j lt less)

  -- ---- capacities and what units are built of

  no_product_capacity : (t i : ℕ) → t < periods → i < n → g.product (capacity_of p t i) ≡ false
  no_product_capacity t i lt less =
      ap (λ (x : Material). is_product x.kind) (capacity_at p plan t i lt less)

  no_raw_capacity : (t i : ℕ) → t < periods → i < n → g.raw (capacity_of p t i) ≡ false
  no_raw_capacity t i lt less =
      ap (λ (x : Material). is_raw_material x.kind) (capacity_at p plan t i lt less)

  raw_site : (i : ℕ) → i < n → g.raw i ≡ true
  raw_site i lt = ap (λ (x : Material). is_raw_material x.kind) (site_at p plan i lt)

  no_product_site : (i : ℕ) → i < n → g.product i ≡ false
  no_product_site i lt = ap (λ (x : Material). is_product x.kind) (site_at p plan i lt)

  no_site_made : (i : ℕ) → i < n → is_made g s i ≡ false
  no_site_made i lt =
      false_from_ne_true (is_made g s i) (λ e.
      let k = is_made-some g s i e in
      elim (unit_place p plan k.0 k.1) as (λ _. ⊥) [
        | is_built u known is
            ↦ built_makes_no_site p plan proper u i known lt
            (subst (λ v. g.makes v i ≡ true) is k.3)
        | is_running r u before known is
            ↦ running_makes_no_site p plan proper r u i before known lt
            (subst (λ v. g.makes v i ≡ true) is k.3)
      ])

  capacity_made : (t i : ℕ) → t < periods → i < n → s i ≡ true
      → is_made g s (capacity_of p t i) ≡ true
  capacity_made t i lt less e =
      is_made-from g s i (capacity_of p t i) (built_in i less) e
      (built_makes_capacity p plan proper t i lt less)

  capacity_maker : (t i : ℕ) → t < periods → i < n → is_made g s (capacity_of p t i) ≡ true
      → s i ≡ true
  capacity_maker t i lt less e =
      let k = is_made-some g s (capacity_of p t i) e in
      elim (unit_place p plan k.0 k.1) as (λ _. s i ≡ true) [
        | is_built u known is ↦
            let its =
            built_makes_its p plan proper t u i known less
            (subst (λ v. g.makes v (capacity_of p t i) ≡ true) is k.3) in
            subst (λ v. s v ≡ true) (is ∙ its) k.2
        | is_running r u before known is
            ↦ absurd
            (running_makes_no_capacity p plan proper r t u i before known less
            (subst (λ v. g.makes v (capacity_of p t i) ≡ true) is k.3))
      ]

  capacity_user : (t i : ℕ) → t < periods → i < n → is_used g s (capacity_of p t i) ≡ true
      → runs t i ≡ true
  capacity_user t i lt less e =
      let k = is_used-some g s (capacity_of p t i) e in
      elim (unit_place p plan k.0 k.1) as (λ _. runs t i ≡ true) [
        | is_built u known is
            ↦ absurd
            (built_uses_no_capacity p plan proper t u i known
            (subst (λ v. g.uses v (capacity_of p t i) ≡ true) is k.3))
        | is_running r u before known is ↦
            let its =
            running_uses_its_capacity p plan proper r t u i before known less
            (subst (λ v. g.uses v (capacity_of p t i) ≡ true) is k.3) in
            let there : s (running_number p t i) ≡ true =
            subst (λ v. s v ≡ true)
            (is ∙ (ap (λ q. running_number p q u) its.0 ∙ ap (running_number p t) its.1)) k.2 in
            sym (same.running t i lt less) ∙ there
      ]

  -- ---- from the families

  module _ (each : (t : ℕ) → t < periods → IsStructure h (runs t))
      (union : (i : ℕ) → i < n → s i ≡ any_below periods (λ t. runs t i)) where
    built_if : (t i : ℕ) → t < periods → i < n → runs t i ≡ true → s i ≡ true
    built_if t i lt less e = union i less ∙ any_below-from periods (λ r. runs r i) t lt e

    abbrev lifted : ℕ → List ℕ → List ℕ
    lifted t [] = []
    lifted t (x ∷ []) = copy_of p t x ∷ []
    lifted t (x ∷ v ∷ rest) = copy_of p t x ∷ running_number p t v ∷ lifted t rest

    in_set : (t i : ℕ) → t < periods → runs t i ≡ true → s (running_number p t i) ≡ true
    in_set t i lt e = same.running t i lt (same.run_known t i lt e) ∙ e

    path_lifts : (t i : ℕ) (path : List ℕ) → t < periods → IsPath h (runs t) i path
        → IsPath g s (running_number p t i) (lifted t path)
    path_lifts t i [] lt leads = leads
    path_lifts t i (x ∷ []) lt leads =
        let known = same.run_known t i lt leads.0 in (
          in_set t i lt leads.0,
          running_makes_copy p plan proper t i x lt known leads.1,
          product_copy t x lt (proper.product_known x leads.2) ∙ leads.2,
        )
    path_lifts t i (x ∷ v ∷ rest) lt leads =
        let known = same.run_known t i lt leads.0 in (
          in_set t i lt leads.0,
          running_makes_copy p plan proper t i x lt known leads.1,
          running_uses_copy p plan proper t v x lt (proper.user_known v x leads.2) leads.2,
          path_lifts t v rest lt leads.3,
        )

    running_leads : (t i : ℕ) → t < periods → runs t i ≡ true → HasPath g s (running_number p t i)
    running_leads t i lt e = let path =
        (each t lt).s4 i e in
        record { path = lifted t path.path; leads = path_lifts t i path.path lt path.leads }

    built_leads : (i : ℕ) → i < n → s i ≡ true → HasPath g s i
    built_leads i lt e =
        let some = any_below-some periods (λ t. runs t i) (sym (union i lt) ∙ e) in
        let rest = running_leads some.0 i some.1 some.2 in
        record {
          path = capacity_of p some.0 i ∷ running_number p some.0 i ∷ rest.path;
          leads = (
            e,
            built_makes_capacity p plan proper some.0 i some.1 lt,
            running_uses_capacity p plan proper some.0 i some.1 lt,
            rest.leads,
          );
        }

    leads_out : (k : ℕ) → s k ≡ true → HasPath g s k
    leads_out k e =
        elim (unit_place p plan k (same.known k e)) as (λ _. HasPath g s k) [
          | is_built i known is
              ↦ subst (HasPath g s) (sym is) (built_leads i known (subst (λ u. s u ≡ true) is e))
          | is_running t i before known is
              ↦ subst (HasPath g s) (sym is)
              (running_leads t i before
              (sym (same.running t i before known) ∙ subst (λ u. s u ≡ true) is e))
        ]

    products_in : (x : ℕ) → g.product x ≡ true → mats g s x ≡ true
    products_in x e =
        elim (material_place p plan x (proper'.product_known x e)) as (λ _. mats g s x ≡ true) [
          | is_site i known is
              ↦ absurd (true≢false (sym e ∙ (ap g.product is ∙ no_product_site i known)))
          | is_copy t j before known is ↦
              ap (mats g s) is
              ∙ (mats_copy t j before known
              ∙ (each t before).s1 j
              (sym (product_copy t j before known) ∙ (ap g.product (sym is) ∙ e)))
          | is_capacity t i before known is
              ↦ absurd
              (true≢false (sym e ∙ (ap g.product is ∙ no_product_capacity t i before known)))
        ]

    known_material_of : (x : ℕ) → mats g s x ≡ true → x < g.materials
    known_material_of x e =
        elim (or_cases (is_used g s x) (is_made g s x) e) as (λ _. x < g.materials) [
          | inl used ↦ let k = is_used-some g s x used in proper'.input_known k.0 x k.3
          | inr made ↦ let k = is_made-some g s x made in proper'.output_known k.0 x k.3
        ]

    built_where : (t i : ℕ) → t < periods → i < n → mats g s (capacity_of p t i) ≡ true
        → is_made g s (capacity_of p t i) ≡ true
    built_where t i lt less e =
        elim
        (or_cases (is_used g s (capacity_of p t i)) (is_made g s (capacity_of p t i))
        e) as (λ _. is_made g s (capacity_of p t i) ≡ true) [
          | inl used
              ↦ capacity_made t i lt less (built_if t i lt less (capacity_user t i lt less used))
          | inr made ↦ made
        ]

    abbrev Sourced : ℕ → Type 0
    Sourced x = ((is_made g s x ≡ false) → (g.raw x ≡ true))
        × ((g.raw x ≡ true) → (is_made g s x ≡ false))

    sourced : (x : ℕ) → mats g s x ≡ true → Sourced x
    sourced x e =
        elim (material_place p plan x (known_material_of x e)) as (λ _. Sourced x) [
          | is_site i known is
              ↦ subst Sourced (sym is) ((λ f. raw_site i known), (λ r. no_site_made i known))
          | is_copy t j before known is ↦
              let there =
              (each t before).s2 j
              (sym (mats_copy t j before known) ∙ (ap (mats g s) (sym is) ∙ e)) in
              subst Sourced (sym is) (
                (λ f. raw_copy t j before known ∙ there.0 (sym (made_copy t j before known) ∙ f)),
                (λ r. made_copy t j before known ∙ there.1 (sym (raw_copy t j before known) ∙ r)),
              )
          | is_capacity t i before known is ↦
              let made = built_where t i before known (ap (mats g s) (sym is) ∙ e) in
              subst Sourced (sym is) (
                (λ f. absurd (true≢false (sym made ∙ f))),
                (λ r. absurd (true≢false (sym r ∙ no_raw_capacity t i before known))),
              )
        ]

    pub families_unite : IsStructure g s
    families_unite = record {
      graph = λ x e. e;
      s1 = products_in;
      s2 = sourced;
      s3 = same.known;
      s4 = leads_out;
      s5 = λ x e. e;
    }

  -- ---- to the families

  module _ (structure : IsStructure g s) where
    -- a path from a unit that runs stays in its period
    path_lowers : (t i k : ℕ) (path : List ℕ) → t < periods → i < n → k ≡ running_number p t i
        → IsPath g s k path → (own : List ℕ) × IsPath h (runs t) i own
    path_lowers t i k [] lt less is leads = absurd leads
    path_lowers t i k (x ∷ []) lt less is leads =
        let made =
        running_makes p plan proper t i x lt less
        (subst (λ u. g.makes u x ≡ true) is leads.1) in
        let runs_it : runs t i ≡ true =
        sym (same.running t i lt less) ∙ subst (λ u. s u ≡ true) is leads.0 in (
          made.0 ∷ [],
          (
            runs_it,
            made.3,
            sym (product_copy t made.0 lt made.1)
                ∙ (ap g.product (sym made.2) ∙ leads.2),
          ),
        )
    path_lowers t i k (x ∷ v ∷ rest) lt less is leads =
        let made =
        running_makes p plan proper t i x lt less
        (subst (λ u. g.makes u x ≡ true) is leads.1) in
        let runs_it : runs t i ≡ true =
        sym (same.running t i lt less) ∙ subst (λ u. s u ≡ true) is leads.0 in
        let uses : g.uses v (copy_of p t made.0) ≡ true =
        subst (λ y. g.uses v y ≡ true) made.2 leads.2 in
        next t i made.0 v rest lt runs_it made.1 made.3 uses leads.3
        (λ r u. path_lowers r u v rest) where
          next : (t i j v : ℕ) (rest : List ℕ) → t < periods → runs t i ≡ true → j < m
              → h.makes i j ≡ true → g.uses v (copy_of p t j) ≡ true → IsPath g s v rest
              → ((r u : ℕ) → r < periods → u < n → v ≡ running_number p r u → IsPath g s v rest
              → (own : List ℕ) × IsPath h (runs r) u own)
              → (own : List ℕ) × IsPath h (runs t) i own
          next t i j v rest lt runs_it less makes uses leads lower =
              elim
              (unit_place p plan v (proper'.user_known v (copy_of p t j) uses)) as (λ _.
              (own : List ℕ) × IsPath h (runs t) i own) [
                | is_built u known is
                    ↦ absurd
                    (built_uses_no_copy p plan proper t u j known
                    (subst (λ w. g.uses w (copy_of p t j) ≡ true) is uses))
                | is_running r u before known is ↦
                    let its =
                    running_uses_its p plan proper r t u j before known less
                    (subst (λ w. g.uses w (copy_of p t j) ≡ true) is uses) in
                    let own = lower r u before known is leads in (
                      j ∷ u ∷ own.0,
                      (runs_it, makes, its.1, subst (λ q. IsPath h (runs q) u own.0) its.0 own.1),
                    )
              ]

    run_leads : (t i : ℕ) → t < periods → runs t i ≡ true → HasPath h (runs t) i
    run_leads t i lt e =
        let known = same.run_known t i lt e in
        let path = structure.s4 (running_number p t i) (same.running t i lt known ∙ e) in
        let own = path_lowers t i (running_number p t i) path.path lt known refl path.leads in
        record { path = own.0; leads = own.1 }

    known_own : (t x : ℕ) → t < periods → mats h (runs t) x ≡ true → x < m
    known_own t x lt e =
        elim (or_cases (is_used h (runs t) x) (is_made h (runs t) x) e) as (λ _. x < m) [
          | inl used ↦ let k = is_used-some h (runs t) x used in proper.input_known k.0 x k.3
          | inr made ↦ let k = is_made-some h (runs t) x made in proper.output_known k.0 x k.3
        ]

    run_sourced : (t x : ℕ) → t < periods → mats h (runs t) x ≡ true
        → ((is_made h (runs t) x ≡ false) → (h.raw x ≡ true))
        × ((h.raw x ≡ true) → (is_made h (runs t) x ≡ false))
    run_sourced t x lt e =
        let known = known_own t x lt e in
        let there = structure.s2 (copy_of p t x) (mats_copy t x lt known ∙ e) in (
          (λ f. sym (raw_copy t x lt known) ∙ there.0 (made_copy t x lt known ∙ f)),
          (λ r. sym (made_copy t x lt known) ∙ there.1 (raw_copy t x lt known ∙ r)),
        )

    run_products : (t x : ℕ) → t < periods → h.product x ≡ true → mats h (runs t) x ≡ true
    run_products t x lt e = let known =
        proper.product_known x e in sym (mats_copy t x lt known)
        ∙ structure.s1 (copy_of p t x) (product_copy t x lt known ∙ e)

    pub each_runs : (t : ℕ) → t < periods → IsStructure h (runs t)
    each_runs t lt = record {
      graph = λ x e. e;
      s1 = λ x e. run_products t x lt e;
      s2 = λ x e. run_sourced t x lt e;
      s3 = λ u e. same.run_known t u lt e;
      s4 = λ u e. run_leads t u lt e;
      s5 = λ x e. e;
    }

    stands : (u : ℕ) (path : List ℕ) → IsPath g s u path → s u ≡ true
    stands u [] leads = absurd leads
    stands u (x ∷ []) leads = leads.0
    stands u (x ∷ v ∷ rest) leads = leads.0

    -- what is built runs in some period
    runs_somewhere : (i : ℕ) (path : List ℕ) → i < n → IsPath g s i path
        → any_below periods (λ t. runs t i) ≡ true
    runs_somewhere i [] lt leads = absurd leads
    runs_somewhere i (x ∷ []) lt leads =
        let made = built_makes p plan proper i x lt leads.1 in
        absurd
        (true≢false
        (sym leads.2 ∙ (ap g.product made.2 ∙ no_product_capacity made.0 i made.1 lt)))
    runs_somewhere i (x ∷ v ∷ rest) lt leads =
        let made = built_makes p plan proper i x lt leads.1 in
        let used =
        is_used-from g s v (capacity_of p made.0 i) (proper'.user_known v x leads.2)
        (stands v rest leads.3) (subst (λ y. g.uses v y ≡ true) made.2 leads.2) in
        any_below-from periods (λ t. runs t i) made.0 made.1 (capacity_user made.0 i made.1 lt used)

    is_built_there : (i : ℕ) → i < n → any_below periods (λ t. runs t i) ≡ true → s i ≡ true
    is_built_there i lt e =
        let some = any_below-some periods (λ t. runs t i) e in
        let in_it : s (running_number p some.0 i) ≡ true =
        same.running some.0 i some.1 lt ∙ some.2 in
        let there =
        used_in g s structure (running_number p some.0 i) (capacity_of p some.0 i) in_it
        (running_uses_capacity p plan proper some.0 i some.1 lt) in
        let maker =
        a_maker g s structure (capacity_of p some.0 i) there
        (no_raw_capacity some.0 i some.1 lt) in
        capacity_maker some.0 i some.1 lt
        (is_made-from g s maker.0 (capacity_of p some.0 i) maker.1 maker.2 maker.3)

    pub built_is_union : (i : ℕ) → i < n → s i ≡ any_below periods (λ t. runs t i)
    built_is_union i lt =
        same_tests (s i) (any_below periods (λ t. runs t i))
        (λ e. let path = structure.s4 i e in runs_somewhere i path.path lt path.leads)
        (is_built_there i lt)

  -- ---- exclusions

  module _ (union : (i : ℕ) → i < n → s i ≡ any_below periods (λ t. runs t i)) where
    abbrev built : ℕ → Bool
    built i = any_below periods (λ t. runs t i)

    pub allowed_with : IsAllowed h built → IsAllowed g s
    allowed_with allowed k clash =
        let one = (proper.excluded_known k clash.one clash.has_one.1).1 in
        let other = (proper.excluded_known k clash.other clash.has_other.1).1 in
        allowed k (record {
          known = clash.known;
          one = clash.one;
          other = clash.other;
          apart = clash.apart;
          has_one = (sym (union clash.one one) ∙ clash.has_one.0, clash.has_one.1);
          has_other = (sym (union clash.other other) ∙ clash.has_other.0, clash.has_other.1);
        })

    pub allowed_without : IsAllowed g s → IsAllowed h built
    allowed_without allowed k clash =
        let one = (proper.excluded_known k clash.one clash.has_one.1).1 in
        let other = (proper.excluded_known k clash.other clash.has_other.1).1 in
        allowed k (record {
          known = clash.known;
          one = clash.one;
          other = clash.other;
          apart = clash.apart;
          has_one = (union clash.one one ∙ clash.has_one.0, clash.has_one.1);
          has_other = (union clash.other other ∙ clash.has_other.0, clash.has_other.1);
        })
