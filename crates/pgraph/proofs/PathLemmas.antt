-- The units that lead to a product, found back from the products.
use Rattle.std.proofs.Common.{◌≡◌, ℕ, ◌<◌, ◌==◌, Bool, true, false, not, ◌&&◌, ◌||◌, List, []}
use Rattle.std.proofs.Common.{◌∷◌}
use Rattle.std.proofs.Common.{Some, None, ◌↔◌, refl, sym, ap, ◌∙◌, subst, inl, inr, arith}
use Rattle.std.proofs.Common.{eqb-true}
use Rattle.std.proofs.Common.{ne_eqb}
use Rattle.std.proofs.lemmas.Bool.{or_cases, or_left, or_right, or_from, and_parts, and_from}
use Rattle.std.proofs.lemmas.Bool.{both_ways, true_from_ne_false, not-true}
use Rattle.flow_rules.specs.number_sets.Sets.{has, first, with_number, union, meet, minus, IsWithin}
use Rattle.flow_rules.specs.number_sets.Sets.{IsRising}
use Rattle.flow_rules.proofs.number_sets.Cited.{has-with_number, has-union, has-meet, has-minus}
use Rattle.flow_rules.proofs.number_sets.Cited.{below_not_had}
use Rattle.flow_rules.proofs.number_sets.Cited.{first_had, first_none}
use Rattle.flow_rules.specs.pns_rules.Shape.{Shape, IsProper}
use Rattle.flow_rules.specs.pns_rules.Structure.{is_used, IsPath, HasPath}
use Rattle.flow_rules.specs.pns_rules.Ends.{IsFirst, IsNever}
use Rattle.flow_rules.proofs.pns_rules.Cited.{is_used-from, is_used-some}

-- ---- the least number of a set

first_below : (xs : List ℕ) (x y : ℕ) → IsRising xs → first xs ≡ Some x → y < x → has xs y ≡ false
first_below [] x y r e lt = cc
first_below (z ∷ xs) x y r e lt =
    let same : z ≡ x = cc in
    or_from (z == y) (has xs y) (ne_eqb z y (λ q. omega arith))
    (below_not_had z y xs (omega arith) r.0)

pub first_is : (xs : List ℕ) (P : ℕ → Type 0) → IsRising xs → ((x : ℕ) → (has xs x ≡ true) ↔ P x)
    → (x : ℕ) → first xs ≡ Some x → IsFirst P x
first_is xs P r is x e = (
  (is x).0 (first_had xs x e),
  λ y lt p. both_ways (has xs y) (first_below xs x y r e lt) ((is y).1 p),
)

pub first_never : (xs : List ℕ) (P : ℕ → Type 0) → ((x : ℕ) → (has xs x ≡ true) ↔ P x)
    → first xs ≡ None → IsNever P
first_never xs P is e y p =
    both_ways (has xs y) (ap (λ zs. has zs y) (first_none xs e)) ((is y).1 p)

-- ---- growing

-- what the search keeps of the units found, the materials wanted and those done
pub record IsGrowing (g : Shape) (set found wanted done : ℕ → Bool) : Type 0 where
  pub sound : (u : ℕ) → found u ≡ true → HasPath g set u
  pub leads : (u x : ℕ) → wanted x ≡ true → set u ≡ true → g.makes u x ≡ true → HasPath g set u
  pub products : IsWithin g.product wanted
  pub inputs : (u x : ℕ) → found u ≡ true → g.uses u x ≡ true → wanted x ≡ true
  pub makers : (u x : ℕ) → done x ≡ true → set u ≡ true → g.makes u x ≡ true → found u ≡ true
  pub known : (x : ℕ) → wanted x ≡ true → x < g.materials

pub growing_start : (g : Shape) (set products : ℕ → Bool) → IsProper g → products ≡ g.product
    → IsGrowing g set (λ _. false) products (λ _. false)
growing_start g set products proper same = record {
  sound = λ u e. absurd (both_ways false refl e);
  leads = λ u x w s m. record { path = x ∷ []; leads = (s, m, sym (ap (λ t. t x) same) ∙ w) };
  products = λ x e. ap (λ t. t x) same ∙ e;
  inputs = λ u x e h. absurd (both_ways false refl e);
  makers = λ u x e s m. absurd (both_ways false refl e);
  known = λ x w. proper.product_known x (sym (ap (λ t. t x) same) ∙ w);
}

module _ (g : Shape) (proper : IsProper g) (set found wanted done : List ℕ)
    (before : IsGrowing g (has set) (has found) (has wanted) (has done))
    (x : ℕ) (least : first (minus wanted done) ≡ Some x) where
  pub taken_wanted : has wanted x ≡ true
  taken_wanted =
      (and_parts (has wanted x) (not (has done x))
      (sym (has-minus wanted done x) ∙ first_had (minus wanted done) x least)).0

  pub taken_fresh : has done x ≡ false
  taken_fresh =
      not-true (has done x)
      (and_parts (has wanted x) (not (has done x))
      (sym (has-minus wanted done x) ∙ first_had (minus wanted done) x least)).1

  module _ (producers fresh : List ℕ) (producers_are : has producers ≡ (λ u. g.makes u x))
      (fresh_is : fresh ≡ minus (meet producers set) found) where
    fresh_has : (u : ℕ) → has fresh u ≡ ((has producers u && has set u) && not (has found u))
    fresh_has u = ap (λ xs. has xs u) fresh_is
        ∙ (has-minus (meet producers set) found u
        ∙ ap (λ b. b && not (has found u)) (has-meet producers set u))

    pub fresh_makes : (u : ℕ) → has fresh u ≡ true → (g.makes u x ≡ true) × (has set u ≡ true)
    fresh_makes u e =
        let p =
        and_parts (has producers u) (has set u)
        (and_parts (has producers u && has set u) (not (has found u))
        (sym (fresh_has u) ∙ e)).0 in
        (sym (ap (λ t. t u) producers_are) ∙ p.0, p.1)

    module _ (used : List ℕ) (used_is : has used ≡ is_used g (has fresh)) where
      sound : (u : ℕ) → has (union found fresh) u ≡ true → HasPath g (has set) u
      sound u e =
          elim (or_cases (has found u) (has fresh u) (sym (has-union found fresh u) ∙ e)) [
            | inl p ↦ before.sound u p
            | inr q ↦ let k = fresh_makes u q in before.leads u x taken_wanted k.1 k.0
          ]

      leads : (u y : ℕ) → has (union wanted used) y ≡ true → has set u ≡ true → g.makes u y ≡ true
          → HasPath g (has set) u
      leads u y e s m =
          elim (or_cases (has wanted y) (has used y) (sym (has-union wanted used y) ∙ e)) [
            | inl p ↦ before.leads u y p s m
            | inr q ↦
                let k = is_used-some g (has fresh) y (sym (ap (λ t. t y) used_is) ∙ q) in
                let w = fresh_makes k.0 k.2 in
                let path = before.leads k.0 x taken_wanted w.1 w.0 in
                record { path = y ∷ k.0 ∷ path.path; leads = (s, m, k.3, path.leads) }
          ]

      inputs : (u y : ℕ) → has (union found fresh) u ≡ true → g.uses u y ≡ true
          → has (union wanted used) y ≡ true
      inputs u y e h = has-union wanted used y
          ∙ elim (or_cases (has found u) (has fresh u) (sym (has-union found fresh u) ∙ e)) [
            | inl p ↦ or_left (has wanted y) (has used y) (before.inputs u y p h)
            | inr q
                ↦ or_right (has wanted y) (has used y)
                (ap (λ t. t y) used_is
                ∙ is_used-from g (has fresh) u y (proper.user_known u y h) q h)
          ]

      found_or_fresh : (u : ℕ) (b : Bool) → has found u ≡ b → has set u ≡ true
          → g.makes u x ≡ true
          → (has found u || has fresh u) ≡ true
      found_or_fresh u true e s m = or_left (has found u) (has fresh u) e
      found_or_fresh u false e s m =
          or_right (has found u) (has fresh u)
          (fresh_has u
          ∙ and_from (has producers u && has set u) (not (has found u))
          (and_from (has producers u) (has set u) (ap (λ t. t u) producers_are ∙ m) s)
          (ap not e))

      makers : (u y : ℕ) → has (with_number x done) y ≡ true → has set u ≡ true
          → g.makes u y ≡ true
          → has (union found fresh) u ≡ true
      makers u y e s m = has-union found fresh u
          ∙ elim (or_cases (x == y) (has done y) (sym (has-with_number x done y) ∙ e)) [
            | inl q
                ↦ found_or_fresh u (has found u) refl s
                (subst (λ z. g.makes u z ≡ true) (sym (eqb-true x y q)) m)
            | inr p ↦ or_left (has found u) (has fresh u) (before.makers u y p s m)
          ]

      known : (y : ℕ) → has (union wanted used) y ≡ true → y < g.materials
      known y e =
          elim (or_cases (has wanted y) (has used y) (sym (has-union wanted used y) ∙ e)) [
            | inl p ↦ before.known y p
            | inr q ↦ let k = is_used-some g (has fresh) y (sym (ap (λ t. t y) used_is) ∙ q) in
                proper.input_known k.0 y k.3
          ]

      pub growing_more : IsGrowing g (has set) (has (union found fresh)) (has (union wanted used))
          (has (with_number x done))
      growing_more = record {
        sound = sound;
        leads = leads;
        products = λ y e. has-union wanted used y
            ∙ or_left (has wanted y) (has used y) (before.products y e);
        inputs = inputs;
        makers = makers;
        known = known;
      }

-- if nothing wanted is left, each unit with a path is found
module _ (g : Shape) (set found wanted done : List ℕ)
    (at_end : IsGrowing g (has set) (has found) (has wanted) (has done))
    (none : first (minus wanted done) ≡ None) where
  all_done : IsWithin (has wanted) (has done)
  all_done x w = true_from_ne_false (has done x) (λ no.
      both_ways (has (minus wanted done) x)
      (ap (λ xs. has xs x) (first_none (minus wanted done) none))
      (has-minus wanted done x ∙ and_from (has wanted x) (not (has done x)) w (ap not no)))

  on_path : (u : ℕ) (path : List ℕ) → IsPath g (has set) u path → has found u ≡ true
  on_path u [] p = absurd p
  on_path u (x ∷ []) p = at_end.makers u x (all_done x (at_end.products x p.2)) p.0 p.1
  on_path u (x ∷ v ∷ rest) p =
      at_end.makers u x (all_done x (at_end.inputs v x (on_path v rest p.3) p.2)) p.0 p.1

  pub all_found : (u : ℕ) → (has found u ≡ true) ↔ HasPath g (has set) u
  all_found u = (at_end.sound u, λ h. on_path u h.path h.leads)
