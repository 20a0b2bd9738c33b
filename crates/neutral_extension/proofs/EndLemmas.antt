-- What a step does to a node, and what a decided node is.
use Rattle.std.proofs.Common.{◌≡◌, ℕ, ◌<◌, ◌==◌, nat_lt, Bool, true, false, not, ◌&&◌, ◌||◌, List}
use Rattle.std.proofs.Common.{[], ◌∷◌, ◌++◌, ◌↔◌, length, refl, sym, ap, ◌∙◌, subst, inl, inr}
use Rattle.std.proofs.Common.{eqb-true, lt-ltb, ltb-true, eq-eqb, arith}
use Rattle.std.proofs.lemmas.Bool.{or_cases, or_left, or_right, and_from, and_parts, both_ways}
use Rattle.std.proofs.lemmas.Bool.{false_from_ne_true, true_from_ne_false, not-true, cases_Bool}
use Rattle.pgraph.specs.number_sets.Sets.{has, listed, IsWithin}
use Rattle.pgraph.specs.pns_rules.Shape.{Shape, IsProper}
use Rattle.pgraph.specs.pns_rules.Structure.{is_made, is_used, is_needed, IsPath, HasPath}
use Rattle.pgraph.specs.pns_rules.Structure.{IsStructure}
use Rattle.pgraph.specs.pns_rules.Structure.{InFamily}
use Rattle.pgraph.specs.pns_rules.Nodes.{Node, Step, raw, rival, starve, loose, sole, IsPossible}
use Rattle.pgraph.specs.pns_rules.Nodes.{after}
use Rattle.pgraph.specs.pns_rules.Nodes.{is_free}
use Rattle.pgraph.specs.pns_rules.Ends.{IsSound, remaining, IsUndecided, IsNever, IsNextStep, Leads}
use Rattle.pgraph.specs.pns_rules.Ends.{IsReduced, IsDecided}
use Rattle.pgraph.proofs.number_sets.Cited.{has-listed, IsRising-listed, length-less}
use Rattle.pgraph.proofs.pns_rules.Cited.{is_made-from, is_made-some, is_used-from, is_used-some}
use Rattle.pgraph.proofs.pns_rules.Cited.{HasPath-within, steps_keep_families}

-- ---- tests of a node

pub free_from : (g : Shape) (d : Node) (u : ℕ) → d.inside u ≡ false → d.outside u ≡ false
    → is_free g d u ≡ true
free_from g d u i o = and_from (not (d.inside u)) (not (d.outside u)) (ap not i) (ap not o)

pub free_parts : (g : Shape) (d : Node) (u : ℕ) → is_free g d u ≡ true → (d.inside u ≡ false)
    × (d.outside u ≡ false)
free_parts g d u e = let p = and_parts (not (d.inside u)) (not (d.outside u)) e in
    (not-true (d.inside u) p.0, not-true (d.outside u) p.1)

pub remains_from : (g : Shape) (d : Node) (u : ℕ) → u < g.units → d.outside u ≡ false
    → remaining g d u ≡ true
remains_from g d u lt o =
    and_from (nat_lt u g.units) (not (d.outside u)) (lt-ltb u g.units lt) (ap not o)

pub remains_parts : (g : Shape) (d : Node) (u : ℕ) → remaining g d u ≡ true → (u < g.units)
    × (d.outside u ≡ false)
remains_parts g d u e = let p = and_parts (nat_lt u g.units) (not (d.outside u)) e in
    (ltb-true u g.units p.0, not-true (d.outside u) p.1)

-- ---- the free units grow fewer

free_count : Shape → Node → ℕ
free_count g d = length (listed g.units (is_free g d))

fewer : (g : Shape) (d e : Node) (u : ℕ) → u < g.units → is_free g d u ≡ true
    → is_free g e u ≡ false → IsWithin (is_free g e) (is_free g d)
    → length (listed g.units (is_free g e)) < length (listed g.units (is_free g d))
fewer g d e u lt there gone within =
    length-less (listed g.units (is_free g e)) (listed g.units (is_free g d)) u
    (IsRising-listed g.units (is_free g e)) (IsRising-listed g.units (is_free g d))
    (λ v h.
    let p =
    and_parts (nat_lt v g.units) (is_free g e v)
    (sym (has-listed g.units (is_free g e) v) ∙ h) in
    has-listed g.units (is_free g d) v
    ∙ and_from (nat_lt v g.units) (is_free g d v) p.0 (within v p.1))
    (has-listed g.units (is_free g d) u
    ∙ and_from (nat_lt u g.units) (is_free g d u) (lt-ltb u g.units lt) there)
    (has-listed g.units (is_free g e) u
    ∙ (ap (λ b. nat_lt u g.units && b) gone ∙ none (nat_lt u g.units)))
  where
    none : (b : Bool) → (b && false) ≡ false
    none true = refl
    none false = refl

-- more units out
fewer_out_free : (g : Shape) (d : Node) (more : ℕ → Bool) (u : ℕ) → u < g.units
    → is_free g d u ≡ true → more u ≡ true
    → length
    (listed g.units
    (is_free g (record { inside = d.inside; outside = λ v. more v || d.outside v })))
    < length (listed g.units (is_free g d))
fewer_out_free g d more u lt there m =
    fewer g d (record { inside = d.inside; outside = λ v. more v || d.outside v }) u lt there
    (false_from_ne_true (not (d.inside u) && not (more u || d.outside u))
    (λ e. both_ways (more u || d.outside u)
    (not-true (more u || d.outside u)
    (and_parts (not (d.inside u)) (not (more u || d.outside u)) e).1)
    (or_left (more u) (d.outside u) m)))
    (λ v e.
    let p = and_parts (not (d.inside v)) (not (more v || d.outside v)) e in
    free_from g d v (not-true (d.inside v) p.0)
    (false_from_ne_true (d.outside v)
    (λ q. both_ways (more v || d.outside v) (not-true (more v || d.outside v) p.1)
    (or_right (more v) (d.outside v) q))))

pub free_falls : (g : Shape) (d : Node) (s : Step) → IsPossible g d s
    → length (listed g.units (is_free g (after g d s))) < length (listed g.units (is_free g d))
free_falls g d (raw u) p = fewer_out_free g d (λ v. u == v) u p.0 p.1 (eq-eqb u u refl)
free_falls g d (rival u) p = fewer_out_free g d (λ v. u == v) u p.0 p.1 (eq-eqb u u refl)
free_falls g d (starve x) p =
    let k = p.2 in
    fewer_out_free g d (λ v. g.uses v x) k.0 k.1 (free_from g d k.0 (p.3 k.0 k.1 k.2 k.3) k.3) k.2
free_falls g d (loose w) p = let k = p.0 in let q =
    p.1 k.0 k.1 in fewer_out_free g d (has w) k.0 q.0 q.1 k.1
free_falls g d (sole x u) p =
    fewer g d (record { inside = λ v. (u == v) || d.inside v; outside = d.outside }) u p.1
    (free_from g d u p.4 p.3)
    (false_from_ne_true (not ((u == u) || d.inside u) && not (d.outside u))
    (λ e. both_ways ((u == u) || d.inside u)
    (not-true ((u == u) || d.inside u)
    (and_parts (not ((u == u) || d.inside u)) (not (d.outside u)) e).0)
    (or_left (u == u) (d.inside u) (eq-eqb u u refl))))
    (λ v e.
    let q = and_parts (not ((u == v) || d.inside v)) (not (d.outside v)) e in
    free_from g d v
    (false_from_ne_true (d.inside v)
    (λ i. both_ways ((u == v) || d.inside v) (not-true ((u == v) || d.inside v) q.0)
    (or_right (u == v) (d.inside v) i))) (not-true (d.outside v) q.1))

-- ---- a sound node stays sound

out_sound : (g : Shape) (d : Node) (more : ℕ → Bool) → IsSound g d
    → ((u : ℕ) → d.inside u ≡ true → more u ≡ true → ⊥)
    → IsSound g (record { inside = d.inside; outside = λ v. more v || d.outside v })
out_sound g d more s apart = record {
  known = s.known;
  apart =
      λ u i o. elim (or_cases (more u) (d.outside u) o)
      [ inl m ↦ apart u i m | inr q ↦ s.apart u i q ];
  no_raw = s.no_raw;
  leads = s.leads;
}

pub sound_after : (g : Shape) (d : Node) (t : Step) → IsSound g d → IsNextStep g d t
    → IsSound g (after g d t)
sound_after g d (raw u) s n =
    out_sound g d (λ v. u == v) s
    (λ v i e. both_ways (d.inside v)
    (subst (λ w. d.inside w ≡ false) (eqb-true u v e) (free_parts g d u n.possible.1).0) i)
sound_after g d (rival u) s n =
    out_sound g d (λ v. u == v) s
    (λ v i e. both_ways (d.inside v)
    (subst (λ w. d.inside w ≡ false) (eqb-true u v e) (free_parts g d u n.possible.1).0) i)
sound_after g d (starve x) s n =
    out_sound g d (λ v. g.uses v x) s
    (λ v i e. both_ways (d.inside v)
    (n.possible.3 v (s.known v i) e (false_from_ne_true (d.outside v) (λ o. s.apart v i o))) i)
sound_after g d (loose w) s n =
    out_sound g d (has w) s
    (λ v i e. both_ways (d.inside v) (free_parts g d v (n.possible.1 v e).1).0 i)
sound_after g d (sole x u) s n = record {
  known =
      λ v e. elim (or_cases (u == v) (d.inside v) e)
      [ inl q ↦ subst (λ w. w < g.units) (eqb-true u v q) p.1 | inr q ↦ s.known v q ];
  apart =
      λ v e o. elim (or_cases (u == v) (d.inside v) e) [
        | inl q ↦ both_ways (d.outside v) (subst (λ w. d.outside w ≡ false) (eqb-true u v q) p.3) o
        | inr q ↦ s.apart v q o
      ];
  no_raw = λ v y e m r. elim (or_cases (u == v) (d.inside v) e) [
    | inl q
        ↦ n.first (raw u) (
          p.1,
          free_from g d u p.4 p.3,
          (y, subst (λ w. g.makes w y ≡ true) (sym (eqb-true u v q)) m, r),
        ) (inl (omega arith))
    | inr q ↦ s.no_raw v y q m r
  ];
  leads = λ v e. elim (or_cases (u == v) (d.inside v) e) [
    | inl q ↦ subst (λ w. HasPath g (λ k. (u == k) || d.inside k) w) (eqb-true u v q) path
    | inr q ↦ HasPath-within g d.inside (λ k. (u == k) || d.inside k) wider v (s.leads v q)
  ];
}
  where
    p : IsPossible g d (sole x u)
    p = n.possible

    wider : IsWithin d.inside (λ k. (u == k) || d.inside k)
    wider k e = or_right (u == k) (d.inside k) e

    there : ((u == u) || d.inside u) ≡ true
    there = or_left (u == u) (d.inside u) (eq-eqb u u refl)

    path : HasPath g (λ k. (u == k) || d.inside k) u
    path = elim (or_cases (g.product x) (not (g.raw x) && is_used g d.inside x) p.0) [
      | inl q ↦ record { path = x ∷ []; leads = (there, p.2, q) }
      | inr q ↦
          let k =
          is_used-some g d.inside x (and_parts (not (g.raw x)) (is_used g d.inside x) q).1 in
          let h =
          HasPath-within g d.inside (λ w. (u == w) || d.inside w) wider k.0 (s.leads k.0 k.2) in
          record { path = x ∷ k.0 ∷ h.path; leads = (there, p.2, k.3, h.leads) }
    ]

-- ---- steps in turn

pub Leads-push : (g : Shape) (d e : Node) (ss : List Step) (s : Step) → Leads g d ss e
    → IsNextStep g e s → Leads g d (ss ++ s ∷ []) (after g e s)
Leads-push g d e [] s h n = (subst (λ k. IsNextStep g k s) (sym h) n, ap (λ k. after g k s) h)
Leads-push g d e (t ∷ ts) s h n = (h.0, Leads-push g (after g d t) e ts s h.1 n)

pub leads_family : (g : Shape) (d e : Node) (ss : List Step) → IsProper g → Leads g d ss e
    → (o : ℕ → Bool) → InFamily g d.inside d.outside o ↔ InFamily g e.inside e.outside o
leads_family g d e [] proper h o =
    subst (λ k. InFamily g d.inside d.outside o ↔ InFamily g k.inside k.outside o) h
    (λ f. f, λ f. f)
leads_family g d e (t ∷ ts) proper h o =
    let one = steps_keep_families g d t proper h.0.possible o in
    let rest = leads_family g (after g d t) e ts proper h.1 o in
    (λ f. rest.0 (one.0 f), λ f. one.1 (rest.1 f))

-- ---- a decided node

module _ (g : Shape) (d : Node) (s : IsSound g d) (r : IsReduced g d)
    (none : IsNever (IsUndecided g d)) where
  -- a maker of a needed material is inside if it is not outside
  inside_if_maker : (u x : ℕ) → u < g.units → g.makes u x ≡ true → d.outside u ≡ false
      → is_needed g d.inside x ≡ true → d.inside u ≡ true
  inside_if_maker u x lt m o e =
      true_from_ne_false (d.inside u)
      (λ i. none x (record { needed = e; some = (u, lt, m, free_from g d u i o) }))

  made_if_needed : (x : ℕ) → is_needed g d.inside x ≡ true → is_made g d.inside x ≡ true
  made_if_needed x e = true_from_ne_false (is_made g d.inside x) (λ no.
      r.live.no_dead x (record {
        needed = e;
        all_out =
            λ u lt m. true_from_ne_false (d.outside u)
            (λ o. both_ways (is_made g d.inside x) no
            (is_made-from g d.inside u x lt (inside_if_maker u x lt m o e) m));
      }))

  -- what makes a raw material is outside
  no_raw_outside : (u x : ℕ) → u < g.units → d.outside u ≡ false → g.makes u x ≡ true
      → g.raw x ≡ true → ⊥
  no_raw_outside u x lt o m q = elim (cases_Bool (d.inside u)) [
    | inl i ↦ s.no_raw u x i m q
    | inr i ↦ r.no_step (raw u) (lt, free_from g d u i o, (x, m, q))
  ]

  -- a unit with a path to a product outside E is inside
  inside_if_path : (u : ℕ) (path : List ℕ) → IsPath g (remaining g d) u path → d.inside u ≡ true
  inside_if_path u [] p = absurd p
  inside_if_path u (x ∷ []) p =
      let q = remains_parts g d u p.0 in
      inside_if_maker u x q.0 p.1 q.1
      (or_left (g.product x) (not (g.raw x) && is_used g d.inside x) p.2)
  inside_if_path u (x ∷ v ∷ rest) p =
      let q = remains_parts g d u p.0 in
      let i = inside_if_path v rest p.3 in
      let plain : g.raw x ≡ false = false_from_ne_true (g.raw x) (no_raw_outside u x q.0 q.1 p.1) in
      inside_if_maker u x q.0 p.1 q.1
      (or_right (g.product x) (not (g.raw x) && is_used g d.inside x)
      (and_from (not (g.raw x)) (is_used g d.inside x) (ap not plain)
      (is_used-from g d.inside v x (s.known v i) i p.2)))

  inside_meets : IsStructure g d.inside
  inside_meets = record {
    graph = λ x e. e;
    s1 =
        λ x e. or_right (is_used g d.inside x) (is_made g d.inside x)
        (made_if_needed x (or_left (g.product x) (not (g.raw x) && is_used g d.inside x) e));
    s2 = λ x e. (
      (λ no. elim (or_cases (is_used g d.inside x) (is_made g d.inside x) e) [
        | inl used
            ↦ true_from_ne_false (g.raw x)
            (λ plain. both_ways (is_made g d.inside x) no
            (made_if_needed x
            (or_right (g.product x) (not (g.raw x) && is_used g d.inside x)
            (and_from (not (g.raw x)) (is_used g d.inside x) (ap not plain) used))))
        | inr made ↦ absurd (both_ways (is_made g d.inside x) no made)
      ]),
      (λ q. false_from_ne_true (is_made g d.inside x)
          (λ made. let k = is_made-some g d.inside x made in s.no_raw k.0 x k.2 k.3 q)),
    );
    s3 = s.known;
    s4 = s.leads;
    s5 = λ x e. e;
  }

  -- a reduced sound node without an undecided material, if each unit outside E has a path or is in
  -- a loose set
  pub decided_from : ((u : ℕ) → remaining g d u ≡ true → HasPath g (remaining g d) u)
      → IsDecided g d
  decided_from paths = record {
    reduced = r;
    decided = none;
    meets = inside_meets;
    allowed = r.live.no_clash;
    none_free = λ u lt. false_from_ne_true (is_free g d u) (λ e.
        let q = free_parts g d u e in
        let h = paths u (remains_from g d u lt q.1) in
        both_ways (d.inside u) q.0 (inside_if_path u h.path h.leads));
  }
