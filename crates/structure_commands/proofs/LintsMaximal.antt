-- The union of all solution structures, if there is none.
use Rattle.std.proofs.Common.{◌≡◌, ◌↔◌, ℕ, zero, suc, Bool, true, false, List, [], sym, subst, inl}
use Rattle.std.proofs.Common.{inr}
use Rattle.std.proofs.lemmas.Bool.{false≢true, or_cases}
use Rattle.text_lines.specs.number_sets.Sets.{has, any_below, Avoids}
use Rattle.cert_check.specs.pns_rules.Shape.{Shape}
use Rattle.cert_check.specs.pns_rules.Structure.{mats, Meets, IsUnion}

none_below : (n : ℕ) → any_below n (λ _. false) ≡ true → ⊥
none_below zero e = false≢true e
none_below (suc n) e = none_below n e

-- the empty set has no materials
none_of_it : (g : Shape) (x : ℕ) → mats g (λ _. false) x ≡ true → ⊥
none_of_it g x e =
    elim (or_cases (any_below g.units (λ _. false)) (any_below g.units (λ _. false)) e)
    [ inl q ↦ none_below g.units q | inr q ↦ none_below g.units q ]

HasNone : Shape → List ℕ → Type 0
HasNone g w = (m o : ℕ → Bool) → Meets g m o → Avoids o (has w) → ⊥

pub empty_union : (g : Shape) (w s : List ℕ) → w ≡ [] → s ≡ []
    → ((m o : ℕ → Bool) → Meets g m o → Avoids o (has w) → ⊥) → IsUnion g (λ _. false) (has s)
unfolding HasNone
empty_union g w s is empty refuted =
    let none : HasNone g [] = subst (HasNone g) is refuted in
    subst (λ (v : List ℕ). IsUnion g (λ _. false) (has v)) (sym empty) (record {
      unit_in =
          λ u. (λ e. absurd (false≢true e), λ found. absurd (none found.0 found.1 found.2 found.3));
      material_in =
          λ x. (
            λ e. absurd (none_of_it g x e),
            λ found. absurd (none found.0 found.1 found.2 found.3),
          );
    })
