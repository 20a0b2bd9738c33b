-- The laws of solution structures.
use Rattle.std.proofs.Common.{◌≡◌, ℕ, ◌<◌, Bool, true, false, ◌&&◌, List, [], ◌∷◌, inl, inr, ◌⊎◌}
use Rattle.std.proofs.lemmas.Bool.{or_cases, or_left, or_right, and_parts, and_from, both_ways}
use Rattle.std.proofs.lemmas.Bool.{false_from_ne_true, true_from_ne_false}
use Rattle.number_sets.specs.Sets.{IsWithin}
use Rattle.pns_rules.specs.Shape.{Shape}
use Rattle.pns_rules.specs.Structure.{is_made, is_used, mats, IsPath, HasPath, IsStructure, both}
use Rattle.number_sets.proofs.Cited.{any_below-from, any_below-some}

module _ (g : Shape) where
  -- what a unit of o makes is made, and what it uses is used
  pub is_made-from : (o : ℕ → Bool) (u x : ℕ) → u < g.units → o u ≡ true → g.makes u x ≡ true
      → is_made g o x ≡ true
  is_made-from o u x h e m =
      any_below-from g.units (λ v. o v && g.makes v x) u h (and_from (o u) (g.makes u x) e m)

  pub is_used-from : (o : ℕ → Bool) (u x : ℕ) → u < g.units → o u ≡ true → g.uses u x ≡ true
      → is_used g o x ≡ true
  is_used-from o u x h e m =
      any_below-from g.units (λ v. o v && g.uses v x) u h (and_from (o u) (g.uses u x) e m)

  pub is_made-some : (o : ℕ → Bool) (x : ℕ) → is_made g o x ≡ true → (u : ℕ) × (u < g.units)
      × (o u ≡ true) × (g.makes u x ≡ true)
  is_made-some o x e =
      let k = any_below-some g.units (λ v. o v && g.makes v x) e in
      let p = and_parts (o k.0) (g.makes k.0 x) k.2 in
      (k.0, k.1, p.0, p.1)

  pub is_used-some : (o : ℕ → Bool) (x : ℕ) → is_used g o x ≡ true → (u : ℕ) × (u < g.units)
      × (o u ≡ true) × (g.uses u x ≡ true)
  is_used-some o x e =
      let k = any_below-some g.units (λ v. o v && g.uses v x) e in
      let p = and_parts (o k.0) (g.uses k.0 x) k.2 in
      (k.0, k.1, p.0, p.1)

  module _ (s t : ℕ → Bool) (w : IsWithin s t) where
    -- a larger set makes and uses more, and has the paths of the smaller
    pub is_made-within : IsWithin (is_made g s) (is_made g t)
    is_made-within x e = let k = is_made-some s x e in is_made-from t k.0 x k.1 (w k.0 k.2) k.3

    pub is_used-within : IsWithin (is_used g s) (is_used g t)
    is_used-within x e = let k = is_used-some s x e in is_used-from t k.0 x k.1 (w k.0 k.2) k.3

    pub mats-within : IsWithin (mats g s) (mats g t)
    mats-within x e =
        elim (or_cases (is_used g s x) (is_made g s x) e) [
          | inl p ↦ or_left (is_used g t x) (is_made g t x) (is_used-within x p)
          | inr p ↦ or_right (is_used g t x) (is_made g t x) (is_made-within x p)
        ]

    pub IsPath-within : (u : ℕ) (path : List ℕ) → IsPath g s u path → IsPath g t u path
    IsPath-within u [] p = p
    IsPath-within u (x ∷ []) p = (w u p.0, p.1, p.2)
    IsPath-within u (x ∷ v ∷ rest) p = (w u p.0, p.1, p.2, IsPath-within v rest p.3)

    pub HasPath-within : (u : ℕ) → HasPath g s u → HasPath g t u
    HasPath-within u p = record { path = p.path; leads = IsPath-within u p.path p.leads }

  -- a raw material of a structure has no maker in it
  pub raw_unmade : (o : ℕ → Bool) → IsStructure g o → (u x : ℕ) → o u ≡ true → g.makes u x ≡ true
      → g.raw x ≡ true → ⊥
  raw_unmade o h u x e m r =
      let made = is_made-from o u x (h.s3 u e) e m in
      both_ways (is_made g o x) ((h.s2 x (or_right (is_used g o x) (is_made g o x) made)).1 r) made

  -- a material of a structure that is not raw has a maker there
  pub a_maker : (o : ℕ → Bool) → IsStructure g o → (x : ℕ) → mats g o x ≡ true → g.raw x ≡ false
      → (u : ℕ) × (u < g.units) × (o u ≡ true) × (g.makes u x ≡ true)
  a_maker o h x m r =
      is_made-some o x
      (true_from_ne_false (is_made g o x) (λ q. both_ways (g.raw x) r ((h.s2 x m).0 q)))

  -- what a unit of a structure uses is a material of it
  pub used_in : (o : ℕ → Bool) → IsStructure g o → (u x : ℕ) → o u ≡ true → g.uses u x ≡ true
      → mats g o x ≡ true
  used_in o h u x e p = or_left (is_used g o x) (is_made g o x) (is_used-from o u x (h.s3 u e) e p)

  module _ (s t : ℕ → Bool) (hs : IsStructure g s) (ht : IsStructure g t) where
    in_left : IsWithin s (both s t)
    in_left u e = or_left (s u) (t u) e

    in_right : IsWithin t (both s t)
    in_right u e = or_right (s u) (t u) e

    mats_of_both : (x : ℕ) → mats g (both s t) x ≡ true → (mats g s x ≡ true) ⊎ (mats g t x ≡ true)
    mats_of_both x e =
        elim (or_cases (is_used g (both s t) x) (is_made g (both s t) x) e) [
          | inl p ↦
              let k = is_used-some (both s t) x p in
              elim (or_cases (s k.0) (t k.0) k.2) [
                | inl q
                    ↦ inl (or_left (is_used g s x) (is_made g s x) (is_used-from s k.0 x k.1 q k.3))
                | inr q
                    ↦ inr (or_left (is_used g t x) (is_made g t x) (is_used-from t k.0 x k.1 q k.3))
              ]
          | inr p ↦
              let k = is_made-some (both s t) x p in
              elim (or_cases (s k.0) (t k.0) k.2) [
                | inl q
                    ↦ inl
                    (or_right (is_used g s x) (is_made g s x) (is_made-from s k.0 x k.1 q k.3))
                | inr q
                    ↦ inr
                    (or_right (is_used g t x) (is_made g t x) (is_made-from t k.0 x k.1 q k.3))
              ]
        ]

    raw_if_unmade : (x : ℕ) → mats g (both s t) x ≡ true → is_made g (both s t) x ≡ false
        → g.raw x ≡ true
    raw_if_unmade x m e =
        elim (mats_of_both x m) [
          | inl p
              ↦ (hs.s2 x p).0
              (false_from_ne_true (is_made g s x)
              (λ q. both_ways (is_made g (both s t) x) e (is_made-within s (both s t) in_left x q)))
          | inr p
              ↦ (ht.s2 x p).0
              (false_from_ne_true (is_made g t x)
              (λ q. both_ways (is_made g (both s t) x) e
              (is_made-within t (both s t) in_right x q)))
        ]

    unmade_if_raw : (x : ℕ) → g.raw x ≡ true → is_made g (both s t) x ≡ false
    unmade_if_raw x r =
        false_from_ne_true (is_made g (both s t) x) (λ e.
        let k = is_made-some (both s t) x e in
        elim (or_cases (s k.0) (t k.0) k.2) [
          | inl q ↦ raw_unmade s hs k.0 x q k.3 r
          | inr q ↦ raw_unmade t ht k.0 x q k.3 r
        ])

    pub structures_unite : IsStructure g (both s t)
    structures_unite = record {
      graph = λ x e. e;
      s1 = λ x e. mats-within s (both s t) in_left x (hs.s1 x e);
      s2 = λ x m. (raw_if_unmade x m, unmade_if_raw x);
      s3 = λ u e. elim (or_cases (s u) (t u) e) [ inl q ↦ hs.s3 u q | inr q ↦ ht.s3 u q ];
      s4 = λ u e. elim (or_cases (s u) (t u) e) [
        | inl q ↦ HasPath-within s (both s t) in_left u (hs.s4 u q)
        | inr q ↦ HasPath-within t (both s t) in_right u (ht.s4 u q)
      ];
      s5 = λ x e. e;
    }
