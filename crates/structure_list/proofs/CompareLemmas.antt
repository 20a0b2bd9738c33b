-- Three answers that exclude each other, and the start of the comparison of two structures.
use Rattle.std.proofs.Common.{◌≡◌, ℕ, Bool, [], List, false, refl, sym, subst₂, Less, Equal}
use Rattle.std.proofs.Common.{Greater, Ordering}
use Rattle.std.proofs.lemmas.Bool.{both_ways}
use Rattle.pgraph.specs.pns_rules.Shape.{Shape}
use Rattle.pgraph.specs.pns_rules.Structure.{IsStructure, IsBetween}
use Rattle.pgraph.specs.number_sets.Sets.{has}

pub only_less : (o : Ordering) (A B C : Type 0) → (o ≡ Greater → B) → (o ≡ Equal → C) → (A → B → ⊥)
    → (A → C → ⊥) → A → o ≡ Less
only_less Less A B C f h ab ac a = refl
only_less Equal A B C f h ab ac a = absurd (ac a (h refl))
only_less Greater A B C f h ab ac a = absurd (ab a (f refl))

pub only_greater : (o : Ordering) (A B C : Type 0) → (o ≡ Less → B) → (o ≡ Equal → C) → (A → B → ⊥)
    → (A → C → ⊥) → A → o ≡ Greater
only_greater Less A B C f h ab ac a = absurd (ab a (f refl))
only_greater Equal A B C f h ab ac a = absurd (ac a (h refl))
only_greater Greater A B C f h ab ac a = refl

pub only_equal : (o : Ordering) (A B C : Type 0) → (o ≡ Less → B) → (o ≡ Greater → C) → (A → B → ⊥)
    → (A → C → ⊥) → A → o ≡ Equal
only_equal Less A B C f h ab ac a = absurd (ab a (f refl))
only_equal Equal A B C f h ab ac a = refl
only_equal Greater A B C f h ab ac a = absurd (ac a (h refl))

pub at_start : (g : Shape) (inside outside : List ℕ) → inside ≡ [] → outside ≡ [] → (s : ℕ → Bool)
    → IsStructure g s → IsBetween g (has inside) (has outside) s
at_start g inside outside qi qo s h =
    subst₂ (λ xs ys. IsBetween g (has xs) (has ys) s) (sym qi) (sym qo) (record {
      meets = h;
      contains = λ u q. absurd (both_ways false refl q);
      avoids = λ u q k. both_ways false refl k;
    })
