-- The units with a path in a balanced set are the union of all structures within it.
use Rattle.std.proofs.Common.{◌≡◌, ℕ, ◌<◌, nat_lt, Bool, true, false, not, ◌&&◌, List, [], ◌∷◌, sym}
use Rattle.std.proofs.Common.{ap, ◌∙◌, inl, inr, ◌↔◌, ltb-true, lt-ltb}
use Rattle.std.proofs.lemmas.Bool.{or_cases, or_left, or_right, and_parts, and_from, both_ways}
use Rattle.std.proofs.lemmas.Bool.{true_from_ne_false, false_from_ne_true, not-true}
use Rattle.pgraph.specs.number_sets.Sets.{has, minus, IsWithin, Avoids}
use Rattle.pgraph.proofs.number_sets.Cited.{has-minus}
use Rattle.pgraph.specs.pns_rules.Shape.{Shape}
use Rattle.pgraph.specs.pns_rules.Structure.{is_made, is_used, mats, IsPath, HasPath, Meets}
use Rattle.pgraph.specs.pns_rules.Structure.{IsStructure}
use Rattle.pgraph.specs.pns_rules.Structure.{IsUnion}
use Rattle.pgraph.specs.pns_rules.Ends.{IsNever}
use Rattle.pgraph.proofs.pns_rules.Cited.{is_made-from, is_made-some, is_made-within, is_used-some}
use Rattle.pgraph.proofs.pns_rules.Cited.{mats-within, HasPath-within}
use Rattle.pgraph.specs.pns_rules.Breaks.{BreaksS1, BreaksS2}
use Rattle.pgraph.proofs.Cited.{balanced}

module _ (g : Shape) where
  begins : (o : ℕ → Bool) (u : ℕ) (path : List ℕ) → IsPath g o u path → o u ≡ true
  begins o u [] p = absurd p
  begins o u (x ∷ []) p = p.0
  begins o u (x ∷ v ∷ rest) p = p.0

  module _ (kept set : ℕ → Bool) (reaches : (u : ℕ) → (set u ≡ true) ↔ HasPath g kept u) where
    pub set_within : IsWithin set kept
    set_within u e = let p = (reaches u).0 e in begins kept u p.path p.leads

    -- a path in `kept` keeps to units that have one
    path_in_set : (u : ℕ) (path : List ℕ) → IsPath g kept u path → IsPath g set u path
    path_in_set u [] p = p
    path_in_set u (x ∷ []) p = ((reaches u).1 (record { path = x ∷ []; leads = p }), p.1, p.2)
    path_in_set u (x ∷ v ∷ rest) p = (
      (reaches u).1 (record { path = x ∷ v ∷ rest; leads = p }),
      p.1,
      p.2,
      path_in_set v rest p.3,
    )

    module _ (never : IsNever (BreaksS2 g kept)) where
      s2_of_kept : (x : ℕ) → mats g kept x ≡ true → (is_made g kept x ≡ false) ↔ (g.raw x ≡ true)
      s2_of_kept x m = balanced g kept (is_made g kept x) (g.raw x) (λ broken. never x (m, broken))

      unmade_if_raw : (x : ℕ) → g.raw x ≡ true → is_made g set x ≡ false
      unmade_if_raw x r = false_from_ne_true (is_made g set x) (λ made.
          let there = is_made-within g set kept set_within x made in
          both_ways (is_made g kept x)
          ((s2_of_kept x (or_right (is_used g kept x) (is_made g kept x) there)).1 r) there)

      -- a material of the set that is not raw is made in `kept`, and by a unit with a path through
      -- it
      made_if_used : (x : ℕ) → is_used g set x ≡ true → g.raw x ≡ false → is_made g set x ≡ true
      made_if_used x used r =
          let u = is_used-some g set x used in
          let there =
          mats-within g set kept set_within x
          (or_left (is_used g set x) (is_made g set x) used) in
          let v =
          is_made-some g kept x
          (true_from_ne_false (is_made g kept x)
          (λ q. both_ways (g.raw x) r ((s2_of_kept x there).0 q))) in
          let p = (reaches u.0).0 u.2 in
          is_made-from g set v.0 x v.1
          ((reaches v.0).1
          (record { path = x ∷ u.0 ∷ p.path; leads = (v.2, v.3, u.3, p.leads) })) v.3

      raw_if_unmade : (x : ℕ) → mats g set x ≡ true → is_made g set x ≡ false → g.raw x ≡ true
      raw_if_unmade x m q = elim (or_cases (is_used g set x) (is_made g set x) m) [
        | inl used
            ↦ true_from_ne_false (g.raw x)
            (λ r. both_ways (is_made g set x) q (made_if_used x used r))
        | inr made ↦ absurd (both_ways (is_made g set x) q made)
      ]

      pub structure_of : ((u : ℕ) → kept u ≡ true → u < g.units) → IsNever (BreaksS1 g set)
          → IsStructure g set
      structure_of known s1 = record {
        graph = λ x e. e;
        s1 = λ x p. true_from_ne_false (mats g set x) (λ q. s1 x (p, q));
        s2 = λ x m. (raw_if_unmade x m, unmade_if_raw x);
        s3 = λ u e. known u (set_within u e);
        s4 = λ u e. let p = (reaches u).0 e in
            record { path = p.path; leads = path_in_set u p.path p.leads };
        s5 = λ x e. e;
      }

    pub set_keeps : (m o : ℕ → Bool) → Meets g m o → IsWithin o kept → IsWithin o set
    set_keeps m o h w u e = (reaches u).1 (HasPath-within g o kept w u (h.s4 u e))

  -- a set that holds all structures which avoid `without`, and is one
  pub union_of : (without set : ℕ → Bool) → IsStructure g set → Avoids set without
      → ((m o : ℕ → Bool) → Meets g m o → Avoids o without → IsWithin o set) → IsUnion g without set
  union_of without set structure avoids upper = record {
    unit_in =
        λ u. (
          λ e. (mats g set, set, structure, avoids, e),
          λ some. upper some.0 some.1 some.2 some.3 u some.4,
        );
    material_in = λ x. (
      λ e. (mats g set, set, structure, avoids, e),
      λ some. mats-within g some.1 set (upper some.0 some.1 some.2 some.3) x (some.2.s5 x some.4),
    );
  }

  -- a product that is missing in a set that holds all structures leaves none
  pub none_of : (without set : ℕ → Bool) (x : ℕ) → BreaksS1 g set x
      → ((m o : ℕ → Bool) → Meets g m o → Avoids o without → IsWithin o set) → (m o : ℕ → Bool)
      → Meets g m o → Avoids o without → ⊥
  none_of without set x b upper m o h a =
      both_ways (mats g set x) b.1 (mats-within g o set (upper m o h a) x (h.s5 x (h.s1 x b.0)))

-- all units of the graph but some
module _ (g : Shape) (all below without : List ℕ) (n : ℕ)
    (below_is : (u : ℕ) → has below u ≡ nat_lt u n) (count : n ≡ g.units)
    (all_is : all ≡ minus below without) where
  all_has : (u : ℕ) → has all u ≡ (nat_lt u g.units && not (has without u))
  all_has u = ap (λ xs. has xs u) all_is
      ∙ (has-minus below without u
      ∙ ap (λ b. b && not (has without u)) (below_is u ∙ ap (nat_lt u) count))

  pub all_known : (u : ℕ) → has all u ≡ true → u < g.units
  all_known u e =
      ltb-true u g.units
      (and_parts (nat_lt u g.units) (not (has without u)) (sym (all_has u) ∙ e)).0

  pub all_avoids : Avoids (has all) (has without)
  all_avoids u e q =
      both_ways (has without u)
      (not-true (has without u)
      (and_parts (nat_lt u g.units) (not (has without u)) (sym (all_has u) ∙ e)).1) q

  pub all_keeps : (m o : ℕ → Bool) → Meets g m o → Avoids o (has without) → IsWithin o (has all)
  all_keeps m o h a u e =
      all_has u
      ∙ and_from (nat_lt u g.units) (not (has without u)) (lt-ltb u g.units (h.s3 u e))
      (ap not (false_from_ne_true (has without u) (a u e)))
