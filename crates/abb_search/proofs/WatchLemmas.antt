-- The open leaf that follows another one is open.
use Rattle.std.proofs.Common.{◌≡◌, ℕ, ◌==◌, Bool, true, false, cond, List, [], ◌∷◌, Option, Some}
use Rattle.std.proofs.Common.{None, refl, sym, ap, ◌∙◌}
use Rattle.std.proofs.lemmas.Bool.{or_right}
use Rattle.node_evaluation.specs.link_lists.Lists.{has, first, following}
use Rattle.abb_search.proofs.ReadyLemmas.{first_has}

pub following_has : (c : ℕ) (xs : List ℕ) (d : ℕ) → following c xs ≡ Some d → has xs d ≡ true
following_has c [] d e = absurd (let q : None ≡ Some d = e in cc)
following_has c (x ∷ xs) d e = by (x == c) refl (λ q. following_has c xs d q)
  where
    by : (b : Bool) → (x == c) ≡ b → (following c xs ≡ Some d → has xs d ≡ true)
        → has (x ∷ xs) d ≡ true
    by true q ih =
        or_right (x == d) (has xs d)
        (first_has xs d (sym (ap (λ t. cond t (first xs) (following c xs)) q) ∙ e))
    by false q ih =
        or_right (x == d) (has xs d) (ih (sym (ap (λ t. cond t (first xs) (following c xs)) q) ∙ e))
