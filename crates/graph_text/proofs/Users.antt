-- The users of a material among some units.
use Rattle.std.proofs.Common.{◌≡◌, ◌<◌, ℕ, Bool, true, List, sym, ap, ◌∙◌}
use Rattle.std.specs.Prelude.{◌&&◌}
use Rattle.report_amounts.specs.number_sets.Sets.{has, meet, listed, IsRising}
use Rattle.report_amounts.proofs.number_sets.Cited.{listed-is, listed-same, below_from, has-meet}
use Rattle.std.proofs.lemmas.Bool.{and_parts}

pub users_are : (n : ℕ) (g h : ℕ → Bool) (all units users : List ℕ) → users ≡ meet all units
    → has all ≡ g → has units ≡ h → IsRising users → ((u : ℕ) → has units u ≡ true → u < n)
    → users ≡ listed n (λ i. g i && h i)
users_are n g h all units users e uses counts r known =
    sym (listed-is n users (record {
      rising = r;
      below =
          below_from n users
          (λ u f. known u
          (and_parts (has all u) (has units u)
          (sym (has-meet all units u) ∙ ap (λ (xs : List ℕ). has xs u) (sym e) ∙ f)).1);
    }))
    ∙ listed-same n (has users) (λ i. g i && h i)
    (λ u l. ap (λ (xs : List ℕ). has xs u) e ∙ has-meet all units u
    ∙ (λ i. uses i u && counts i u))
