-- The axioms that a set breaks, and what the judge's answers mean.
use Rattle.std.proofs.Common.{◌≡◌, ℕ, ◌<◌, Bool, true, false, not, ◌&&◌, ◌||◌, List, ◌↔◌, refl, sym}
use Rattle.std.proofs.Common.{ap, ap₂, ◌∙◌}
use Rattle.std.proofs.lemmas.Bool.{and_parts, and_from, both_ways, true_from_ne_false}
use Rattle.std.proofs.lemmas.Bool.{false_from_ne_true, not-true}
use Rattle.flow_rules.specs.number_sets.Sets.{has, union, meet, minus}
use Rattle.flow_rules.proofs.number_sets.Cited.{has-union, has-meet, has-minus}
use Rattle.flow_rules.specs.pns_rules.Shape.{Shape}
use Rattle.flow_rules.specs.pns_rules.Structure.{is_made, is_used, mats, HasPath, IsStructure}
use Rattle.flow_rules.specs.pns_rules.Ends.{IsNever}
use Rattle.flow_rules.specs.pns_rules.Breaks.{BreaksS1, BreaksS2, BreaksS4}

module _ (g : Shape) (o : List ℕ) where
  pub breaks_s1_is : (products materials missing : List ℕ) → has products ≡ g.product
      → has materials ≡ mats g (has o) → missing ≡ minus products materials → (x : ℕ)
      → (has missing x ≡ true) ↔ BreaksS1 g (has o) x
  breaks_s1_is products materials missing products_are materials_are is x = (
    λ e.
        let p =
        and_parts (has products x) (not (has materials x))
        (sym (ap (λ xs. has xs x) is ∙ has-minus products materials x) ∙ e) in (
          sym (ap (λ t. t x) products_are) ∙ p.0,
          sym (ap (λ t. t x) materials_are)
              ∙ not-true (has materials x) p.1,
        ),
    λ b.
        ap (λ xs. has xs x) is
        ∙ (has-minus products materials x
        ∙ and_from (has products x) (not (has materials x)) (ap (λ t. t x) products_are ∙ b.0)
        (ap not (ap (λ t. t x) materials_are ∙ b.1))),
  )

  table : (used made raw : Bool) → (((made && raw) || (used && not (raw || made))) ≡ true)
      ↔ (((used || made) ≡ true) × (((made ≡ false) ↔ (raw ≡ true)) → ⊥))
  table true true true = (λ e. (refl, λ h. both_ways false refl (sym (h.1 refl))), λ b. refl)
  table true true false = (
    λ e. absurd (both_ways false refl e),
    λ b. absurd (b.1 (λ q. absurd (both_ways true q refl), λ q. absurd (both_ways false refl q))),
  )
  table true false true =
      (λ e. absurd (both_ways false refl e), λ b. absurd (b.1 (λ q. refl, λ q. refl)))
  table true false false = (λ e. (refl, λ h. both_ways false refl (h.0 refl)), λ b. refl)
  table false true true = (λ e. (refl, λ h. both_ways false refl (sym (h.1 refl))), λ b. refl)
  table false true false = (
    λ e. absurd (both_ways false refl e),
    λ b. absurd (b.1 (λ q. absurd (both_ways true q refl), λ q. absurd (both_ways false refl q))),
  )
  table false false true =
      (λ e. absurd (both_ways false refl e), λ b. absurd (both_ways false refl b.0))
  table false false false =
      (λ e. absurd (both_ways false refl e), λ b. absurd (both_ways false refl b.0))

  pub breaks_s2_is : (raws made used unbalanced : List ℕ) → has raws ≡ g.raw
      → has made ≡ is_made g (has o) → has used ≡ is_used g (has o)
      → unbalanced ≡ union (meet made raws) (minus used (union raws made)) → (x : ℕ)
      → (has unbalanced x ≡ true) ↔ BreaksS2 g (has o) x
  breaks_s2_is raws made used unbalanced raws_are made_is used_is is x = (
    λ e. rules.0 (sym test ∙ e),
    λ b. test ∙ rules.1 b,
  )
    where
      rules : (((is_made g (has o) x && g.raw x) ||
          (is_used g (has o) x && not (g.raw x || is_made g (has o) x))) ≡ true)
          ↔ BreaksS2 g (has o) x
      rules = table (is_used g (has o) x) (is_made g (has o) x) (g.raw x)

      made_raw : has (meet made raws) x ≡ (is_made g (has o) x && g.raw x)
      made_raw = has-meet made raws x
          ∙ ap₂ (λ (a b : Bool). a && b) (ap (λ t. t x) made_is) (ap (λ t. t x) raws_are)

      raw_or_made : has (union raws made) x ≡ (g.raw x || is_made g (has o) x)
      raw_or_made = has-union raws made x
          ∙ ap₂ (λ (a b : Bool). a || b) (ap (λ t. t x) raws_are) (ap (λ t. t x) made_is)

      test : has unbalanced x
          ≡ ((is_made g (has o) x && g.raw x) ||
          (is_used g (has o) x && not (g.raw x || is_made g (has o) x)))
      test =
          ap (λ xs. has xs x) is
          ∙ (has-union (meet made raws) (minus used (union raws made)) x
          ∙ ap₂ (λ (a b : Bool). a || b) made_raw
          (has-minus used (union raws made) x
          ∙ ap₂ (λ (a b : Bool). a && not b) (ap (λ t. t x) used_is) raw_or_made))

  pub breaks_s4_is : (reaching pathless : List ℕ)
      → ((u : ℕ) → (has reaching u ≡ true) ↔ HasPath g (has o) u) → pathless ≡ minus o reaching
      → (u : ℕ) → (has pathless u ≡ true) ↔ BreaksS4 g (has o) u
  breaks_s4_is reaching pathless reaches is u = (
    λ e.
        let p =
        and_parts (has o u) (not (has reaching u))
        (sym (ap (λ xs. has xs u) is ∙ has-minus o reaching u) ∙ e) in
        (p.0, λ h. both_ways (has reaching u) (not-true (has reaching u) p.1) ((reaches u).1 h)),
    λ b.
        ap (λ xs. has xs u) is
        ∙ (has-minus o reaching u
        ∙ and_from (has o u) (not (has reaching u)) b.0
        (ap not (false_from_ne_true (has reaching u) (λ r. b.1 ((reaches u).0 r))))),
  )

  pub others_reach : (reaching pathless : List ℕ)
      → ((u : ℕ) → (has reaching u ≡ true) ↔ HasPath g (has o) u) → pathless ≡ minus o reaching
      → (u : ℕ) → has o u ≡ true → has pathless u ≡ false → HasPath g (has o) u
  others_reach reaching pathless reaches is u e absent =
      (reaches u).0 (true_from_ne_false (has reaching u) (λ q.
      both_ways (has pathless u) absent
      (ap (λ xs. has xs u) is
      ∙ (has-minus o reaching u ∙ and_from (has o u) (not (has reaching u)) e (ap not q)))))

-- a test is decided, and so is the second axiom at a material
module _ (g : Shape) (o : ℕ → Bool) where
  pub balanced : (made raw : Bool) → ((((made ≡ false) ↔ (raw ≡ true)) → ⊥) → ⊥) → (made ≡ false)
      ↔ (raw ≡ true)
  balanced true true nn = absurd (nn (λ h. both_ways false refl (sym (h.1 refl))))
  balanced true false nn =
      (λ q. absurd (both_ways true q refl), λ q. absurd (both_ways false refl q))
  balanced false true nn = (λ q. refl, λ q. refl)
  balanced false false nn = absurd (nn (λ h. both_ways false refl (h.0 refl)))

  -- if no axiom is broken the set meets them all
  pub meets_all : IsNever (BreaksS1 g o) → IsNever (BreaksS2 g o)
      → ((u : ℕ) → o u ≡ true → HasPath g o u) → ((u : ℕ) → o u ≡ true → u < g.units)
      → IsStructure g o
  meets_all s1 s2 paths known = record {
    graph = λ x e. e;
    s1 = λ x p. true_from_ne_false (mats g o x) (λ q. s1 x (p, q));
    s2 = λ x m. balanced (is_made g o x) (g.raw x) (λ broken. s2 x (m, broken));
    s3 = known;
    s4 = paths;
    s5 = λ x e. e;
  }

  -- and if one is broken it does not
  pub s1_refutes : (x : ℕ) → BreaksS1 g o x → IsStructure g o → ⊥
  s1_refutes x b h = both_ways (mats g o x) b.1 (h.s1 x b.0)

  pub s2_refutes : (x : ℕ) → BreaksS2 g o x → IsStructure g o → ⊥
  s2_refutes x b h = b.1 (h.s2 x b.0)

  pub s4_refutes : (u : ℕ) → BreaksS4 g o u → IsStructure g o → ⊥
  s4_refutes u b h = b.1 (h.s4 u b.0)
