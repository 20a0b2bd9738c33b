-- What a checked sum is, in other words.
use Rattle.std.proofs.Common.{◌≡◌, ℤ, Option, Some, None, ◌∙◌}
use Rattle.std.specs.Prelude.{SomeIff, IfSome}

pub some_is : (P : Type 0) (r : Option ℤ) (a b : ℤ) → SomeIff r P a → a ≡ b
    → IfSome r (λ sum. sum ≡ b)
some_is P (Some x) a b h e = h.1 ∙ e
some_is P None a b h e = tt
