use Rattle.std.proofs.Common.{◌≡◌, ℕ, ◌<◌, ◌+◌, ◌*◌}
use Rattle.exact_numbers.proofs.multiples.by_digits.Given as goal

pub record IsSharing
    (factor rest den left sum_whole sum_rest power_whole power_rest : ℕ) : Type
    0 where
  pub sum_below : sum_rest < den
  pub power_below : power_rest < den
  pub whole : (sum_whole * den + sum_rest) + left * (power_whole * den + power_rest)
      ≡ factor
      * rest

abbrev pub invariant-loop-left : goal.invariant-loop-left
invariant-loop-left l = IsSharing l.fn.factor l.fn.rest l.fn.den l.left l.sum.whole l.sum.rest l.power.whole l.power.rest

abbrev pub decreases-loop-left : goal.decreases-loop-left
decreases-loop-left l = l.left
