-- The units outside a set.
use Rattle.std.proofs.Common.{◌≡◌, ℕ, Bool, List, sym, ap, ◌∙◌}
use Rattle.std.specs.Prelude.{nat_lt, not, ◌&&◌}
use Rattle.text_lines.specs.number_sets.Sets.{has, listed, minus, IsSet}
use Rattle.text_lines.proofs.number_sets.Cited.{has-kept, has-listed, same_sets, IsRising-kept}
use Rattle.text_lines.proofs.number_sets.Cited.{IsRising-listed}

-- all units less those of a set
pub left_out_is : (n : ℕ) (s all : List ℕ) → IsSet 128 all → ((u : ℕ) → has all u ≡ nat_lt u n)
    → minus all s ≡ listed n (λ i. not (has s i))
left_out_is n s all is are =
    same_sets (minus all s) (listed n (λ i. not (has s i)))
    (IsRising-kept (λ u. not (has s u)) all is.rising) (IsRising-listed n (λ i. not (has s i)))
    (λ u. has-kept (λ v. not (has s v)) all u ∙ ap (λ (b : Bool). b && not (has s u)) (are u)
    ∙ sym (has-listed n (λ i. not (has s i)) u))
