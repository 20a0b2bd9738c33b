-- Sets of units of a plant.
use Rattle.std.proofs.Common.{◌≡◌, ℕ, ◌<◌, List, true, sym, subst, ◌∙◌}
use Rattle.std.specs.Prelude.{nat_lt}
use Rattle.std.proofs.lemmas.Bool.{ltb-true}
use Rattle.tree_parts.specs.number_sets.Sets.{has, IsSet, IsWithin}
use Rattle.tree_parts.proofs.number_sets.Cited.{below_from}

-- a set whose numbers are below n
pub set_below : (n : ℕ) (us : List ℕ) → IsSet 128 us → ((u : ℕ) → has us u ≡ true → u < n)
    → IsSet n us
set_below n us h f = record { rising = h.rising; below = below_from n us f }

-- a set within that of the numbers below a count
pub set_known : (n count : ℕ) (us below : List ℕ) → count ≡ n → IsSet 128 us
    → ((u : ℕ) → has below u ≡ nat_lt u count) → IsWithin (has us) (has below) → IsSet n us
set_known n count us below e h b w =
    set_below n us h (λ u k. subst (λ (m : ℕ). u < m) e (ltb-true u count (sym (b u) ∙ w u k)))
