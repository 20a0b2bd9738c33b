-- The base and the free makers of a material as sets.
use Rattle.std.proofs.Common.{◌≡◌, ℕ, nat_lt, Bool, true, not, ◌&&◌, List, sym, ap, ◌∙◌, lt-ltb}
use Rattle.std.proofs.lemmas.Bool.{and_parts, and_from, both_ways, not-true}
use Rattle.flow_rules.specs.number_sets.Sets.{has, meet, minus, listed, IsRising, Avoids}
use Rattle.flow_rules.proofs.number_sets.Cited.{has-meet, has-minus, has-listed, IsRising-listed}
use Rattle.flow_rules.proofs.number_sets.Cited.{same_sets}
use Rattle.flow_rules.proofs.number_sets.Cited.{same_tests}
use Rattle.flow_rules.specs.pns_rules.Shape.{Shape, IsProper}
use Rattle.flow_rules.specs.pns_rules.Structure.{makers}
use Rattle.flow_rules.specs.pns_rules.Nodes.{Node, is_free, base_makers, free_makers}

module _ (g : Shape) (proper : IsProper g) (x : ℕ) (inside outside producers : List ℕ)
    (producers_are : has producers ≡ (λ u. g.makes u x)) where
  abbrev n : Node
  n = record { inside = has inside; outside = has outside }

  makes : (u : ℕ) → has producers u ≡ g.makes u x
  makes u = ap (λ t. t u) producers_are

  -- a list of makers that pass is the list of the units that do
  listed_is : (test : ℕ → Bool) (xs : List ℕ) → IsRising xs
      → ((u : ℕ) → has xs u ≡ true → test u ≡ true) → ((u : ℕ) → test u ≡ true → g.makes u x ≡ true)
      → ((u : ℕ) → test u ≡ true → has xs u ≡ true) → xs ≡ listed g.units test
  listed_is test xs rising to made from =
      same_sets xs (listed g.units test) rising (IsRising-listed g.units test)
      (λ u. same_tests (has xs u) (has (listed g.units test) u)
      (λ e. has-listed g.units test u
      ∙ and_from (nat_lt u g.units) (test u)
      (lt-ltb u g.units (proper.maker_known u x (made u (to u e)))) (to u e))
      (λ e. from u (and_parts (nat_lt u g.units) (test u) (sym (has-listed g.units test u) ∙ e)).1))

  pub base_is : (base : List ℕ) → IsRising base → base ≡ meet producers inside
      → base ≡ base_makers g n x
  base_is base rising is = listed_is (makers g (has inside) x) base rising
      (λ u e.
      let p =
      and_parts (has producers u) (has inside u)
      (sym (ap (λ xs. has xs u) is ∙ has-meet producers inside u) ∙ e) in
      and_from (has inside u) (g.makes u x) p.1 (sym (makes u) ∙ p.0))
      (λ u e. (and_parts (has inside u) (g.makes u x) e).1)
      (λ u e.
      let p = and_parts (has inside u) (g.makes u x) e in
      ap (λ xs. has xs u) is
      ∙ (has-meet producers inside u
      ∙ and_from (has producers u) (has inside u) (makes u ∙ p.1) p.0))

  module _ (free some : List ℕ) (is : free ≡ minus some outside)
      (some_is : some ≡ minus producers inside) where
    free_has : (u : ℕ)
        → has free u ≡ ((has producers u && not (has inside u)) && not (has outside u))
    free_has u = ap (λ xs. has xs u) is
        ∙ (has-minus some outside u
        ∙ ap (λ b. b && not (has outside u))
        (ap (λ xs. has xs u) some_is ∙ has-minus producers inside u))

    pub free_is : IsRising free → free ≡ free_makers g n x
    free_is rising = listed_is (λ u. is_free g n u && g.makes u x) free rising
        (λ u e.
        let p =
        and_parts (has producers u && not (has inside u)) (not (has outside u))
        (sym (free_has u) ∙ e) in
        let q = and_parts (has producers u) (not (has inside u)) p.0 in
        and_from (is_free g n u) (g.makes u x)
        (and_from (not (has inside u)) (not (has outside u)) q.1 p.1) (sym (makes u) ∙ q.0))
        (λ u e. (and_parts (is_free g n u) (g.makes u x) e).1)
        (λ u e.
        let p = and_parts (is_free g n u) (g.makes u x) e in
        let q = and_parts (not (has inside u)) (not (has outside u)) p.0 in
        free_has u
        ∙ and_from (has producers u && not (has inside u)) (not (has outside u))
        (and_from (has producers u) (not (has inside u)) (makes u ∙ p.1) q.0) q.1)

    pub base_and_free_apart : (base : List ℕ) → base ≡ meet producers inside
        → Avoids (has base) (has free)
    base_and_free_apart base base_eq u e f =
        let p =
        and_parts (has producers u && not (has inside u)) (not (has outside u))
        (sym (free_has u) ∙ f) in
        both_ways (has inside u)
        (not-true (has inside u) (and_parts (has producers u) (not (has inside u)) p.0).1)
        (and_parts (has producers u) (has inside u)
        (sym (ap (λ xs. has xs u) base_eq ∙ has-meet producers inside u) ∙ e)).1
