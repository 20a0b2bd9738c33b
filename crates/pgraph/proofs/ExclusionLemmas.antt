-- Two units of one exclusion.
use Rattle.std.proofs.Common.{◌≡◌, ℕ, ◌+◌, ◌<◌, ◌≤◌, ◌==◌, Bool, true, false, not, ◌&&◌, ◌||◌, List}
use Rattle.std.proofs.Common.{[], ◌∷◌, length, ◌↔◌, refl, sym, ap, ◌∙◌, subst, inl, inr, arith}
use Rattle.std.proofs.Common.{eq-eqb, eqb-true}
use Rattle.std.proofs.lemmas.Bool.{or_cases, or_left, or_right, and_parts, and_from, both_ways}
use Rattle.std.proofs.lemmas.Bool.{cases_eq, not-true}
use Rattle.flow_rules.specs.number_sets.Sets.{has, union, meet, minus, IsRising}
use Rattle.flow_rules.proofs.number_sets.Cited.{has-union, has-meet, has-minus}
use Rattle.flow_rules.specs.pns_rules.Shape.{Shape}
use Rattle.flow_rules.specs.pns_rules.Structure.{Clashes}
use Rattle.pgraph.specs.Rivals.{SharesBelow, IsFoundOrMet, IsRival}
use Rattle.pgraph.proofs.ArcLemmas.{some_number}

module _ (g : Shape) (o : List ℕ) (k : ℕ) (excluded both : List ℕ)
    (excluded_is : has excluded ≡ g.excludes k) (both_is : both ≡ meet excluded o) where
  both_has : (u : ℕ) → has both u ≡ (has excluded u && has o u)
  both_has u = ap (λ xs. has xs u) both_is ∙ has-meet excluded o u

  pub clash_from : Clashes g (has o) k → 2 ≤ length both
  clash_from c = two both (there c.one c.has_one) (there c.other c.has_other)
    where
      there : (u : ℕ) → (has o u ≡ true) × (g.excludes k u ≡ true) → has both u ≡ true
      there u h = both_has u
          ∙ and_from (has excluded u) (has o u) (ap (λ t. t u) excluded_is ∙ h.1) h.0

      one_only : (a u : ℕ) → ((a == u) || false) ≡ true → a ≡ u
      one_only a u h =
          elim (or_cases (a == u) false h)
          [ inl q ↦ eqb-true a u q | inr q ↦ absurd (both_ways false refl q) ]

      two : (xs : List ℕ) → has xs c.one ≡ true → has xs c.other ≡ true → 2 ≤ length xs
      two [] p q = absurd (both_ways false refl p)
      two (a ∷ []) p q =
          let e = one_only a c.one p in
          let f = one_only a c.other q in
          let lt = c.apart in
          absurd (omega arith)
      two (a ∷ b ∷ xs) p q = omega arith

  pub clash_to : k < g.exclusions → IsRising both → 2 ≤ length both → Clashes g (has o) k
  clash_to known r h =
      by both r h (λ u e. and_parts (has excluded u) (has o u) (sym (both_has u) ∙ e))
    where
      by : (xs : List ℕ) → IsRising xs → 2 ≤ length xs
          → ((u : ℕ) → has xs u ≡ true → (has excluded u ≡ true) × (has o u ≡ true))
          → Clashes g (has o) k
      by [] r h parts = absurd (omega arith)
      by (a ∷ []) r h parts = absurd (omega arith)
      by (a ∷ b ∷ xs) r h parts =
          let pa = parts a (or_left (a == a) ((b == a) || has xs a) (eq-eqb a a refl)) in
          let pb =
          parts b
          (or_right (a == b) ((b == b) || has xs b)
          (or_left (b == b) (has xs b) (eq-eqb b b refl))) in
          record {
            known = known;
            one = a;
            other = b;
            apart = r.0.0;
            has_one = (pa.1, sym (ap (λ t. t a) excluded_is) ∙ pa.0);
            has_other = (pb.1, sym (ap (λ t. t b) excluded_is) ∙ pb.0);
          }

-- ---- rivals

pub met_none : (found excluded o : List ℕ) → meet excluded o ≡ [] → (u : ℕ) → (has found u ≡ true)
    ↔ IsFoundOrMet (has found) (has excluded) (has o) u
met_none found excluded o none u = (
  λ e. inl e,
  λ h. elim h [
    | inl e ↦ e
    | inr m ↦ let v =
        m.1 in
        absurd
        (both_ways (has (meet excluded o) v.0) (ap (λ xs. has xs v.0) none)
        (has-meet excluded o v.0 ∙ and_from (has excluded v.0) (has o v.0) v.1 v.2))
  ],
)

pub met_some : (found excluded o : List ℕ) → (meet excluded o ≡ [] → ⊥) → (u : ℕ)
    → (has (union found excluded) u ≡ true) ↔ IsFoundOrMet (has found) (has excluded) (has o) u
met_some found excluded o ne u = (
  λ e. elim (or_cases (has found u) (has excluded u) (sym (has-union found excluded u) ∙ e))
      [ inl p ↦ inl p | inr q ↦ inr (q, there) ],
  λ h. has-union found excluded u
      ∙ elim h [
        | inl e ↦ or_left (has found u) (has excluded u) e
        | inr m
            ↦ or_right (has found u) (has excluded u) m.0
      ],
)
  where
    there : (v : ℕ) × (has excluded v ≡ true) × (has o v ≡ true)
    there =
        let v = some_number (meet excluded o) ne in
        let p = and_parts (has excluded v.0) (has o v.0) (sym (has-meet excluded o v.0) ∙ v.1) in
        (v.0, p.0, p.1)

pub shares_none : (g : Shape) (o : ℕ → Bool) (u : ℕ) → (false ≡ true) ↔ SharesBelow g o 0 u
shares_none g o u =
    (λ e. absurd (both_ways false refl e), λ s. let lt = s.known in absurd (omega arith))

pub shares_more : (g : Shape) (o : ℕ → Bool) (k : ℕ) (before after excluded : ℕ → Bool)
    → excluded ≡ g.excludes k → ((u : ℕ) → (before u ≡ true) ↔ SharesBelow g o k u)
    → ((u : ℕ) → (after u ≡ true) ↔ IsFoundOrMet before excluded o u) → (u : ℕ) → (after u ≡ true)
    ↔ SharesBelow g o (k + 1) u
shares_more g o k before after excluded is was step u = (to, from)
  where
    to : after u ≡ true → SharesBelow g o (k + 1) u
    to e = elim ((step u).0 e) [
      | inl p ↦
          let s = (was u).0 p in
          let lt = s.known in
          record {
            exclusion = s.exclusion;
            other = s.other;
            known = omega arith;
            has_other =
                s.has_other;
            names_unit = s.names_unit;
            names_other = s.names_other;
          }
      | inr m ↦
          let v = m.1 in
          record {
            exclusion = k;
            other = v.0;
            known = omega arith;
            has_other = v.2;
            names_unit =
                sym (ap (λ t. t u) is) ∙ m.0;
            names_other = sym (ap (λ t. t v.0) is) ∙ v.1;
          }
    ]

    from : SharesBelow g o (k + 1) u → after u ≡ true
    from s = (step u).1 (elim (cases_eq s.exclusion k) [
      | inl q
          ↦ inr (
            ap (λ t. t u) is ∙ subst (λ j. g.excludes j u ≡ true) q s.names_unit,
            (
              s.other,
              ap (λ t. t s.other) is
                  ∙ subst (λ j. g.excludes j s.other ≡ true) q s.names_other,
              s.has_other,
            ),
          )
      | inr ne ↦
          let lt = s.known in
          inl ((was u).1
          (record {
            exclusion = s.exclusion;
            other = s.other;
            known = omega arith;
            has_other =
                s.has_other;
            names_unit = s.names_unit;
            names_other = s.names_other;
          }))
    ])

pub rival_is : (g : Shape) (o sharing : List ℕ)
    → ((u : ℕ) → (has sharing u ≡ true) ↔ SharesBelow g (has o) g.exclusions u) → (u : ℕ)
    → (has (minus sharing o) u ≡ true) ↔ IsRival g (has o) u
rival_is g o sharing is u = (
  λ e. let p = and_parts (has sharing u) (not (has o u)) (sym (has-minus sharing o u) ∙ e) in
      (not-true (has o u) p.1, (is u).0 p.0),
  λ r. has-minus sharing o u ∙ and_from (has sharing u) (not (has o u)) ((is u).1 r.1) (ap not r.0),
)
