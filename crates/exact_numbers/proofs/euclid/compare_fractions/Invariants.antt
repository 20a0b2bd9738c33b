use Rattle.std.proofs.Common.{ℕ, ◌≡◌, ◌<◌, ◌*◌, ◌+◌, nat_cmp}
use Rattle.exact_numbers.proofs.euclid.compare_fractions.Given as goal

pub record IsStep (a₀ b₀ c₀ d₀ a b c d : ℕ) : Type 0 where
  pub first : 0 < b
  pub second : 0 < d
  pub same : nat_cmp (a * d) (c * b) ≡ nat_cmp (a₀ * d₀) (c₀ * b₀)

abbrev pub invariant-steps : goal.invariant-steps
invariant-steps l = IsStep l.fn.a l.fn.b l.fn.c l.fn.d l.a l.b l.c l.d

abbrev pub decreases-steps : goal.decreases-steps
decreases-steps l = l.b + l.d
