-- A set covers a node if no structure has the unit beside it and none of its units.
use Rattle.std.proofs.Common.{◌≡◌, ℕ, Bool, true, false, refl, sym, subst, ◌∙◌, Option, Some, None}
use Rattle.std.specs.Prelude.{◌||◌, ◌&&◌, IfSome}
use Rattle.std.proofs.lemmas.Bool.{both_ways, eq-eqb, eqb-true}
use Rattle.structure_list.specs.number_sets.Sets.{has, any_below}
use Rattle.structure_list.proofs.number_sets.Cited.{any_below-some, any_below-none}
use Rattle.structure_list.specs.pns_rules.Shape.{Shape}
use Rattle.structure_list.specs.pns_rules.Structure.{IsBetween}
use Rattle.structure_list.specs.pns_rules.Nodes.{Node}
use Rattle.structure_list.specs.flow_rules.Cover.{Cover, Covers, is_beside}

module _ (g : Shape) (n : Node) (c : Cover) (inside outside : ℕ → Bool)
    (in_is : (u : ℕ) → inside u ≡ (is_beside c.beside u || n.inside u))
    (out_is : (u : ℕ) → outside u ≡ (n.outside u || has c.units u)) where
  right_of : (a b : Bool) → b ≡ true → (a || b) ≡ true
  right_of true b h = refl
  right_of false b h = h

  left_of : (a b : Bool) → a ≡ true → (a || b) ≡ true
  left_of true b h = refl
  left_of false b h = absurd (both_ways false refl h)

  either : {X : Type 0} → (a b : Bool) → (a ≡ true → X) → (b ≡ true → X) → (a || b) ≡ true → X
  either true b f k h = f refl
  either false b f k h = k h

  both_in : (a b : Bool) → a ≡ true → b ≡ true → (a && b) ≡ true
  both_in true b e f = f
  both_in false b e f = e

  parts : (a b : Bool) → (a && b) ≡ true → (a ≡ true) × (b ≡ true)
  parts true b h = (refl, h)
  parts false b h = absurd (both_ways false refl h)

  beside_in : (s : ℕ → Bool) (b : Option ℕ) → IfSome b (λ u. s u ≡ true) → (u : ℕ) → is_beside b u
      ≡ true → s u ≡ true
  beside_in s None h u e = absurd (both_ways false refl e)
  beside_in s (Some v) h u e = subst (λ w. s w ≡ true) (eqb-true v u e) h

  is_beside_at : (b : Option ℕ) (s : ℕ → Bool) → ((u : ℕ) → is_beside b u ≡ true → s u ≡ true)
      → IfSome b (λ u. s u ≡ true)
  is_beside_at None s h = tt
  is_beside_at (Some v) s h = h v (eq-eqb v v refl)

  pub covers_then : ((o : ℕ → Bool) → IsBetween g inside outside o → ⊥) → Covers g n c
  covers_then none s between has_beside = at (any_below g.units (λ u. s u && has c.units u)) refl
    where
      at : (b : Bool) → any_below g.units (λ u. s u && has c.units u) ≡ b → b ≡ true
      at true e = refl
      at false e = absurd (none s (record {
        meets = between.meets;
        contains = λ u h. either (is_beside c.beside u) (n.inside u)
            (beside_in s c.beside has_beside u) (between.contains u) (sym (in_is u) ∙ h);
        avoids = λ u is out. either (n.outside u) (has c.units u) (between.avoids u is)
            (λ h. both_ways (s u && has c.units u)
            (any_below-none g.units (λ u. s u && has c.units u) u e (between.meets.s3 u is))
            (both_in (s u) (has c.units u) is h))
            (sym (out_is u) ∙ out);
      }))

  pub covers_none : Covers g n c → (o : ℕ → Bool) → IsBetween g inside outside o → ⊥
  covers_none covers o between =
      let some = any_below-some g.units (λ u. o u && has c.units u) (covers o (record {
        meets = between.meets;
        contains =
            λ u h. between.contains u (in_is u ∙ right_of (is_beside c.beside u) (n.inside u) h);
        avoids =
            λ u is out. between.avoids u is (out_is u ∙ left_of (n.outside u) (has c.units u) out);
      })
      (is_beside_at c.beside o
      (λ u e. between.contains u (in_is u ∙ left_of (is_beside c.beside u) (n.inside u) e)))) in
      let p = parts (o some.0) (has c.units some.0) some.2 in
      between.avoids some.0 p.0
      (out_is some.0 ∙ right_of (n.outside some.0) (has c.units some.0) p.1)
