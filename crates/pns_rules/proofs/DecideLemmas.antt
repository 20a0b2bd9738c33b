-- Whether a set of units is a solution structure, and whether it is clash-free, is computed.
use Rattle.std.proofs.Common.{◌≡◌, ℕ, ◌<◌, Bool, true, false, not, ◌&&◌, ◌||◌, refl, sym, ap, ap₂}
use Rattle.std.proofs.Common.{◌∙◌, inl, inr, ◌⊎◌, ◌↔◌}
use Rattle.std.proofs.lemmas.Bool.{cases_Bool, both_ways, and_parts, and_from, or_cases, not-true}
use Rattle.std.proofs.lemmas.Bool.{false_from_ne_true}
use Rattle.number_sets.specs.Sets.{any_below, IsWithin}
use Rattle.number_sets.proofs.Cited.{any_below-from, any_below-some, any_below-none}
use Rattle.pns_rules.specs.Shape.{Shape, IsProper}
use Rattle.pns_rules.specs.Structure.{is_made, is_used, mats, HasPath, IsStructure, Clashes}
use Rattle.pns_rules.specs.Structure.{IsAllowed}
use Rattle.pns_rules.proofs.StructureLemmas.{is_used-some, is_made-some}
use Rattle.pns_rules.proofs.PathLemmas.{found_in, found_leads, path_found}

module _ (g : Shape) (o : ℕ → Bool) where
  -- a product that is no material of o
  abbrev pub misses : ℕ → Bool
  misses x = g.product x && not (mats g o x)

  -- a material that is raw and made, or neither
  abbrev pub mismade : ℕ → Bool
  mismade x = mats g o x && ((is_made g o x && g.raw x) || (not (is_made g o x) && not (g.raw x)))

  -- a unit of o without a path to a product
  abbrev pub strands : ℕ → Bool
  strands u = o u && not (found_in g o g.units u)

  abbrev pub meets_axioms : Bool
  meets_axioms =
      not (any_below g.materials misses) &&
      (not (any_below g.materials mismade) && not (any_below g.units strands))

  abbrev pub has_two : ℕ → Bool
  has_two k =
      any_below g.units (λ v. (o v && g.excludes k v) && any_below v (λ u. o u && g.excludes k u))

  abbrev pub is_allowed : Bool
  is_allowed = not (any_below g.exclusions has_two)

module _ (g : Shape) (proper : IsProper g) (o : ℕ → Bool)
    (known : (u : ℕ) → o u ≡ true → u < g.units) where
  mats_known : (x : ℕ) → mats g o x ≡ true → x < g.materials
  mats_known x e = elim (or_cases (is_used g o x) (is_made g o x) e) [
    | inl p ↦ let k = is_used-some g o x p in proper.input_known k.0 x k.3
    | inr p ↦ let k = is_made-some g o x p in proper.output_known k.0 x k.3
  ]

  s1_of : any_below g.materials (misses g o) ≡ false → IsWithin g.product (mats g o)
  s1_of none x e = elim (cases_Bool (mats g o x)) [
    | inl m ↦ m
    | inr m
        ↦ absurd
        (both_ways (misses g o x)
        (any_below-none g.materials (misses g o) x none (proper.product_known x e))
        (and_from (g.product x) (not (mats g o x)) e (ap not m)))
  ]

  s2_of : any_below g.materials (mismade g o) ≡ false → (x : ℕ) → mats g o x ≡ true
      → (is_made g o x ≡ false) ↔ (g.raw x ≡ true)
  s2_of none x m = at (is_made g o x) (g.raw x) refl refl
    where
      fits : mismade g o x ≡ false
      fits = any_below-none g.materials (mismade g o) x none (mats_known x m)

      at : (a b : Bool) → is_made g o x ≡ a → g.raw x ≡ b → (a ≡ false) ↔ (b ≡ true)
      at true true p q =
          absurd
          (both_ways (mismade g o x) fits
          (ap₂ (λ c d. mats g o x && ((c && d) || (not c && not d))) p q
          ∙ and_from (mats g o x) true m refl))
      at true false p q = (λ e. sym e, λ e. sym e)
      at false true p q = (λ e. refl, λ e. refl)
      at false false p q =
          absurd
          (both_ways (mismade g o x) fits
          (ap₂ (λ c d. mats g o x && ((c && d) || (not c && not d))) p q
          ∙ and_from (mats g o x) true m refl))

  s4_of : any_below g.units (strands g o) ≡ false → (u : ℕ) → o u ≡ true → HasPath g o u
  s4_of none u e = elim (cases_Bool (found_in g o g.units u)) [
    | inl f ↦ found_leads g o g.units u f
    | inr f
        ↦ absurd
        (both_ways (strands g o u) (any_below-none g.units (strands g o) u none (known u e))
        (and_from (o u) (not (found_in g o g.units u)) e (ap not f)))
  ]

  no_misses : IsStructure g o → (x : ℕ) → misses g o x ≡ true → ⊥
  no_misses h x e =
      let p = and_parts (g.product x) (not (mats g o x)) e in
      both_ways (mats g o x) (not-true (mats g o x) p.1) (h.s1 x p.0)

  no_mismade : IsStructure g o → (x : ℕ) → mismade g o x ≡ true → ⊥
  no_mismade h x e =
      let p =
      and_parts (mats g o x)
      ((is_made g o x && g.raw x) || (not (is_made g o x) && not (g.raw x))) e in
      let two = h.s2 x p.0 in
      elim (or_cases (is_made g o x && g.raw x) (not (is_made g o x) && not (g.raw x)) p.1) [
        | inl k ↦ let q = and_parts (is_made g o x) (g.raw x) k in
            both_ways (is_made g o x) (two.1 q.1) q.0
        | inr k ↦ let q = and_parts (not (is_made g o x)) (not (g.raw x)) k in
            both_ways (g.raw x) (not-true (g.raw x) q.1) (two.0 (not-true (is_made g o x) q.0))
      ]

  no_strands : IsStructure g o → (u : ℕ) → strands g o u ≡ true → ⊥
  no_strands h u e =
      let p = and_parts (o u) (not (found_in g o g.units u)) e in
      both_ways (found_in g o g.units u) (not-true (found_in g o g.units u) p.1)
      (path_found g o proper known u (h.s4 u p.0))

  pub structure_if : meets_axioms g o ≡ true → IsStructure g o
  structure_if e =
      let p =
      and_parts (not (any_below g.materials (misses g o)))
      (not (any_below g.materials (mismade g o)) && not (any_below g.units (strands g o))) e in
      let q =
      and_parts (not (any_below g.materials (mismade g o)))
      (not (any_below g.units (strands g o))) p.1 in
      record {
        graph = λ x e. e;
        s1 = s1_of (not-true (any_below g.materials (misses g o)) p.0);
        s2 = s2_of (not-true (any_below g.materials (mismade g o)) q.0);
        s3 = known;
        s4 = s4_of (not-true (any_below g.units (strands g o)) q.1);
        s5 = λ x e. e;
      }

  never : (n : ℕ) (t : ℕ → Bool) → ((x : ℕ) → t x ≡ true → ⊥) → not (any_below n t) ≡ true
  never n t none =
      ap not
      (false_from_ne_true (any_below n t) (λ e. let k = any_below-some n t e in none k.0 k.2))

  pub if_structure : IsStructure g o → meets_axioms g o ≡ true
  if_structure h =
      and_from (not (any_below g.materials (misses g o)))
      (not (any_below g.materials (mismade g o)) && not (any_below g.units (strands g o)))
      (never g.materials (misses g o) (no_misses h))
      (and_from (not (any_below g.materials (mismade g o))) (not (any_below g.units (strands g o)))
      (never g.materials (mismade g o) (no_mismade h))
      (never g.units (strands g o) (no_strands h)))

  pub structure_or_not : IsStructure g o ⊎ (IsStructure g o → ⊥)
  structure_or_not =
      elim (cases_Bool (meets_axioms g o)) [
        | inl e ↦ inl (structure_if e)
        | inr e
            ↦ inr (λ h. both_ways (meets_axioms g o) e (if_structure h))
      ]

  -- ---- exclusions

  two_of : (k : ℕ) → k < g.exclusions → has_two g o k ≡ true → Clashes g o k
  two_of k lt e =
      let v =
      any_below-some g.units
      (λ w. (o w && g.excludes k w) && any_below w (λ u. o u && g.excludes k u)) e in
      let p =
      and_parts (o v.0 && g.excludes k v.0) (any_below v.0 (λ u. o u && g.excludes k u)) v.2 in
      let u = any_below-some v.0 (λ w. o w && g.excludes k w) p.1 in
      record {
        known = lt;
        one = u.0;
        other = v.0;
        apart = u.1;
        has_one =
            and_parts (o u.0) (g.excludes k u.0) u.2;
        has_other =
            and_parts (o v.0) (g.excludes k v.0) p.0;
      }

  from_two : (k : ℕ) → Clashes g o k → has_two g o k ≡ true
  from_two k c =
      any_below-from g.units
      (λ v. (o v && g.excludes k v) && any_below v (λ u. o u && g.excludes k u)) c.other
      (known c.other c.has_other.0)
      (and_from (o c.other && g.excludes k c.other) (any_below c.other (λ u. o u && g.excludes k u))
      (and_from (o c.other) (g.excludes k c.other) c.has_other.0 c.has_other.1)
      (any_below-from c.other (λ u. o u && g.excludes k u) c.one c.apart
      (and_from (o c.one) (g.excludes k c.one) c.has_one.0 c.has_one.1)))

  pub allowed_if : is_allowed g o ≡ true → IsAllowed g o
  allowed_if e k c =
      both_ways (has_two g o k)
      (any_below-none g.exclusions (has_two g o) k
      (not-true (any_below g.exclusions (has_two g o)) e) c.known) (from_two k c)

  pub if_allowed : IsAllowed g o → is_allowed g o ≡ true
  if_allowed h =
      ap not
      (false_from_ne_true (any_below g.exclusions (has_two g o))
      (λ e. let k = any_below-some g.exclusions (has_two g o) e in h k.0 (two_of k.0 k.1 k.2)))

  pub allowed_or_not : IsAllowed g o ⊎ (IsAllowed g o → ⊥)
  allowed_or_not =
      elim (cases_Bool (is_allowed g o)) [
        | inl e ↦ inl (allowed_if e)
        | inr e
            ↦ inr (λ h. both_ways (is_allowed g o) e (if_allowed h))
      ]
