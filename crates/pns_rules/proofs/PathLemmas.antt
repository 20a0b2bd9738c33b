-- Whether a unit has a path to a product is computed: the units that have one grow from the
-- products, until no unit is added.
use Rattle.std.proofs.Common.{Bool, List, [], ap, arith, false, inl, inr, length, lt-ltb, nat_lt}
use Rattle.std.proofs.Common.{refl, subst, suc, sym, true, zero, ℕ, ⊎_elim, ◌&&◌, ◌+◌, ◌<◌, ◌||◌}
use Rattle.std.proofs.Common.{◌∙◌, ◌∷◌, ◌≡◌, ◌≤◌, ◌⊎◌}
use Rattle.std.proofs.lemmas.Bool.{cases_eq, cases_lt, both_ways, and_parts, and_from, or_cases}
use Rattle.std.proofs.lemmas.Bool.{or_left, or_right}
use Rattle.number_sets.specs.Sets.{has, listed, any_below, IsWithin}
use Rattle.number_sets.proofs.Cited.{length_listed, any_below-from, any_below-some}
use Rattle.number_sets.proofs.Cited.{any_below-within, has-listed, IsRising-listed, same_length}
use Rattle.number_sets.proofs.Cited.{length-within}
use Rattle.pns_rules.specs.Shape.{Shape, IsProper}
use Rattle.pns_rules.specs.Structure.{IsPath, HasPath}

module _ (g : Shape) (o : ℕ → Bool) where
  -- x is a product, or an input of a unit that was found
  abbrev pub leads_on : (ℕ → Bool) → ℕ → Bool
  leads_on found x = g.product x || any_below g.units (λ v. g.uses v x && found v)

  -- u is in o and makes such a material
  abbrev pub grown : (ℕ → Bool) → ℕ → Bool
  grown found u = o u && any_below g.materials (λ x. g.makes u x && leads_on found x)

  -- what is found in k turns
  abbrev pub found_in : ℕ → ℕ → Bool
  found_in zero u = false
  found_in (suc k) u = grown (found_in k) u

  grown_parts : (f : ℕ → Bool) (u : ℕ) → grown f u ≡ true → (o u ≡ true)
      × ((x : ℕ) × (g.makes u x ≡ true)
      × ((g.product x ≡ true) ⊎ ((v : ℕ) × (f v ≡ true) × (g.uses v x ≡ true))))
  grown_parts f u e =
      let p = and_parts (o u) (any_below g.materials (λ x. g.makes u x && leads_on f x)) e in
      let x = any_below-some g.materials (λ y. g.makes u y && leads_on f y) p.1 in
      let q = and_parts (g.makes u x.0) (leads_on f x.0) x.2 in (
        p.0,
        (
          x.0,
          q.0,
          elim (or_cases (g.product x.0) (any_below g.units (λ v. g.uses v x.0 && f v)) q.1) [
            | inl r ↦ inl r
            | inr r ↦
                let v = any_below-some g.units (λ w. g.uses w x.0 && f w) r in
                let s = and_parts (g.uses v.0 x.0) (f v.0) v.2 in
                inr (v.0, s.1, s.0)
          ],
        ),
      )

  grown_within : (f h : ℕ → Bool) → IsWithin f h → IsWithin (grown f) (grown h)
  grown_within f h w u e =
      let p = and_parts (o u) (any_below g.materials (λ x. g.makes u x && leads_on f x)) e in
      and_from (o u) (any_below g.materials (λ x. g.makes u x && leads_on h x)) p.0
      (any_below-within g.materials (λ x. g.makes u x && leads_on f x)
      (λ x. g.makes u x && leads_on h x) (λ x q. more x q) p.1)
    where
      more : (x : ℕ) → (g.makes u x && leads_on f x) ≡ true → (g.makes u x && leads_on h x) ≡ true
      more x q =
          let r = and_parts (g.makes u x) (leads_on f x) q in
          and_from (g.makes u x) (leads_on h x) r.0
          (elim (or_cases (g.product x) (any_below g.units (λ v. g.uses v x && f v)) r.1) [
            | inl a ↦ or_left (g.product x) (any_below g.units (λ v. g.uses v x && h v)) a
            | inr a ↦ or_right (g.product x) (any_below g.units (λ v. g.uses v x && h v))
                (any_below-within g.units (λ v. g.uses v x && f v) (λ v. g.uses v x && h v)
                (λ v b. let c = and_parts (g.uses v x) (f v) b in
                and_from (g.uses v x) (h v) c.0 (w v c.1)) a)
          ])

  found_grows : (k : ℕ) → IsWithin (found_in k) (found_in (suc k))
  found_grows zero u e = absurd (both_ways false refl e)
  found_grows (suc k) u e = grown_within (found_in k) (found_in (suc k)) (found_grows k) u e

  found_inside : (k : ℕ) → IsWithin (found_in k) o
  found_inside zero u e = absurd (both_ways false refl e)
  found_inside (suc k) u e = (grown_parts (found_in k) u e).0

  pub found_leads : (k u : ℕ) → found_in k u ≡ true → HasPath g o u
  found_leads zero u e = absurd (both_ways false refl e)
  found_leads (suc k) u e = at (grown_parts (found_in k) u e) (found_leads k)
    where
      at : (o u ≡ true)
          × ((x : ℕ) × (g.makes u x ≡ true)
          × ((g.product x ≡ true) ⊎ ((v : ℕ) × (found_in k v ≡ true) × (g.uses v x ≡ true))))
          → ((v : ℕ) → found_in k v ≡ true → HasPath g o v) → HasPath g o u
      at (a, (x, m, inl p)) ih = record { path = x ∷ []; leads = (a, m, p) }
      at (a, (x, m, inr v)) ih = let rest =
          ih v.0 v.1 in record { path = x ∷ v.0 ∷ rest.path; leads = (a, m, v.2, rest.leads) }

  module _ (proper : IsProper g) (known : (u : ℕ) → o u ≡ true → u < g.units) where
    -- a set to which nothing is added has each unit with a path
    closed_has : (f : ℕ → Bool) → IsWithin (grown f) f → (u : ℕ) (path : List ℕ) → IsPath g o u path
        → f u ≡ true
    closed_has f c u [] p = absurd p
    closed_has f c u (x ∷ []) p =
        c u (and_from (o u) (any_below g.materials (λ y. g.makes u y && leads_on f y)) p.0
        (any_below-from g.materials (λ y. g.makes u y && leads_on f y) x
        (proper.output_known u x p.1)
        (and_from (g.makes u x) (leads_on f x) p.1
        (or_left (g.product x) (any_below g.units (λ v. g.uses v x && f v)) p.2))))
    closed_has f c u (x ∷ v ∷ rest) p =
        let later = closed_has f c v rest p.3 in
        c u (and_from (o u) (any_below g.materials (λ y. g.makes u y && leads_on f y)) p.0
        (any_below-from g.materials (λ y. g.makes u y && leads_on f y) x
        (proper.output_known u x p.1)
        (and_from (g.makes u x) (leads_on f x) p.1
        (or_right (g.product x) (any_below g.units (λ w. g.uses w x && f w))
        (any_below-from g.units (λ w. g.uses w x && f w) v (proper.user_known v x p.2)
        (and_from (g.uses v x) (f v) p.2 later))))))

    found_has : (k u : ℕ) → has (listed g.units (found_in k)) u ≡ found_in k u
    found_has k u = has-listed g.units (found_in k) u
        ∙ at (nat_lt u g.units) (found_in k u) refl refl
      where
        at : (a b : Bool) → nat_lt u g.units ≡ a → found_in k u ≡ b → (a && b) ≡ b
        at true b p q = refl
        at false true p q =
            absurd
            (both_ways (nat_lt u g.units) p (lt-ltb u g.units (known u (found_inside k u q))))
        at false false p q = refl

    list_within : (j k : ℕ) → IsWithin (found_in j) (found_in k)
        → IsWithin (has (listed g.units (found_in j))) (has (listed g.units (found_in k)))
    list_within j k w u e = found_has k u ∙ w u (sym (found_has j u) ∙ e)

    size_most : (k : ℕ) → length (listed g.units (found_in k)) ≤ length (listed g.units o)
    size_most k =
        length-within (listed g.units (found_in k)) (listed g.units o)
        (IsRising-listed g.units (found_in k)) (IsRising-listed g.units o)
        (λ u e. has-listed g.units o u
        ∙ (let i = found_inside k u (sym (found_has k u) ∙ e) in
        and_from (nat_lt u g.units) (o u) (lt-ltb u g.units (known u i)) i))

    -- after some turn nothing is added
    stable : (fuel k : ℕ) → length (listed g.units o) ≤ length (listed g.units (found_in k)) + fuel
        → (j : ℕ) × (j ≤ k + fuel) × IsWithin (found_in (suc j)) (found_in j)
    stable fuel k h =
        by fuel k h
        (cases_lt (length (listed g.units (found_in k)))
        (length (listed g.units (found_in (suc k)))))
      where
        by : (fuel k : ℕ) → length (listed g.units o) ≤ length (listed g.units (found_in k)) + fuel
            → (length (listed g.units (found_in k)) < length (listed g.units (found_in (suc k))))
            ⊎ (length (listed g.units (found_in (suc k))) ≤ length (listed g.units (found_in k)))
            → (j : ℕ) × (j ≤ k + fuel) × IsWithin (found_in (suc j)) (found_in j)
        by fuel k h (inr le) =
            let e =
            same_length (listed g.units (found_in k)) (listed g.units (found_in (suc k)))
            (IsRising-listed g.units (found_in k)) (IsRising-listed g.units (found_in (suc k)))
            (list_within k (suc k) (found_grows k)) le in (
              k,
              omega arith,
              λ u q. sym (found_has k u)
                  ∙ (ap (λ xs. has xs u) e ∙ (found_has (suc k) u ∙ q)),
            )
        by zero k h (inl lt) = absurd (let most = size_most (suc k) in omega arith)
        by (suc fuel) k h (inl lt) =
            let rest =
            by fuel (suc k) (omega (arith, h, lt))
            (cases_lt (length (listed g.units (found_in (suc k))))
            (length (listed g.units (found_in (suc (suc k)))))) in
            (rest.0, omega (arith, rest.1), rest.2)

    found_later : (j k : ℕ) → j ≤ k → IsWithin (found_in j) (found_in k)
    found_later j zero le u e = let q : j ≡ zero =
        omega arith in subst (λ i. found_in i u ≡ true) q e
    found_later j (suc k) le u e =
        ⊎_elim (λ q. subst (λ i. found_in i u ≡ true) q e)
        (λ ne. found_grows k u (found_later j k (omega arith) u e)) (cases_eq j (suc k))

    -- as many turns as there are units find each unit with a path
    pub path_found : (u : ℕ) → HasPath g o u → found_in g.units u ≡ true
    path_found u p = at (stable g.units 0 (omega (arith, length_listed g.units o)))
      where
        at : ((j : ℕ) × (j ≤ 0 + g.units) × IsWithin (found_in (suc j)) (found_in j))
            → found_in g.units u ≡ true
        at (j, le, c) =
            found_later j g.units (omega arith) u (closed_has (found_in j) c u p.path p.leads)
