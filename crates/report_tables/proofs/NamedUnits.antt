-- The units of the problem that are in a set.
use Rattle.std.proofs.Common.{◌≡◌, ℕ, Bool, List, sym, ap, ◌∙◌}
use Rattle.std.specs.Prelude.{nat_lt, ◌&&◌}
use Rattle.text_lines.specs.number_sets.Sets.{has, listed, meet, IsSet}
use Rattle.text_lines.proofs.number_sets.Cited.{has-meet, has-listed, same_sets, IsRising-kept}
use Rattle.text_lines.proofs.number_sets.Cited.{IsRising-listed}

pub named_are : (n : ℕ) (s all : List ℕ) → IsSet 128 all → ((u : ℕ) → has all u ≡ nat_lt u n)
    → meet all s ≡ listed n (has s)
named_are n s all is are =
    same_sets (meet all s) (listed n (has s)) (IsRising-kept (has s) all is.rising)
    (IsRising-listed n (has s))
    (λ u. has-meet all s u ∙ ap (λ (b : Bool). b && has s u) (are u) ∙ sym (has-listed n (has s) u))
