-- The units that are free at a node.
use Rattle.std.proofs.Common.{◌≡◌, ℕ, Bool, true, false, refl, sym, ap, ◌∙◌, List}
use Rattle.std.specs.Prelude.{◌&&◌, not, nat_lt}
use Rattle.std.proofs.lemmas.Bool.{both_ways, ltb-true, lt-ltb}
use Rattle.structure_list.specs.number_sets.Sets.{has, minus}
use Rattle.structure_list.proofs.number_sets.Cited.{has-minus}
use Rattle.structure_list.specs.pns_rules.Shape.{Shape}
use Rattle.structure_list.specs.pns_rules.Nodes.{Node}
use Rattle.structure_list.specs.flow_rules.Cover.{IsFree}

false_of : (a : Bool) → not a ≡ true → a ≡ false
false_of true h = absurd (both_ways false refl h)
false_of false h = refl

three : (a b c : Bool) → ((a && not b) && not c) ≡ true → (a ≡ true) × (b ≡ false) × (c ≡ false)
three true true c h = absurd (both_ways false refl h)
three true false true h = absurd (both_ways false refl h)
three true false false h = (refl, refl, refl)
three false b c h = absurd (both_ways false refl h)

three_back : (a b c : Bool) → a ≡ true → b ≡ false → c ≡ false → ((a && not b) && not c) ≡ true
three_back a b c e f g = rw (e, f, g) refl

module _ (g : Shape) (n : Node) (below inside outside first free : List ℕ)
    (all : (u : ℕ) → has below u ≡ nat_lt u g.units)
    (inner : first ≡ minus below inside) (outer : free ≡ minus first outside)
    (is : (u : ℕ) → n.inside u ≡ has inside u) (os : (u : ℕ) → n.outside u ≡ has outside u) where
  free_is : (u : ℕ) → has free u ≡ ((nat_lt u g.units && not (n.inside u)) && not (n.outside u))
  free_is u = ap (λ (xs : List ℕ). has xs u) outer ∙ has-minus first outside u
      ∙ ap (λ b. b && not (has outside u))
      (ap (λ (xs : List ℕ). has xs u) inner ∙ has-minus below inside u)
      ∙ (λ i. (all u i && not (sym (is u) i)) && not (sym (os u) i))

  pub has_free : (u : ℕ) → has free u ≡ true → IsFree g n u
  has_free u h =
      let p = three (nat_lt u g.units) (n.inside u) (n.outside u) (sym (free_is u) ∙ h) in
      record { known = ltb-true u g.units p.0; not_inside = p.1; not_outside = p.2 }

  pub free_had : (u : ℕ) → IsFree g n u → has free u ≡ true
  free_had u h = free_is u ∙ three_back (nat_lt u g.units) (n.inside u) (n.outside u)
      (lt-ltb u g.units h.known) h.not_inside h.not_outside
