use Rattle.std.proofs.Common.{◌≡◌, ◌<◌, ℕ, false}
use Rattle.abb_search.specs.Worth.{is_put_off}
use Rattle.abb_search.specs.Closing.{hand_of}
use Rattle.abb_search.proofs.settling.first_put_off.Given as goal

abbrev pub invariant-leaves : goal.invariant-leaves
invariant-leaves l = (j : ℕ) → j < l.leaf → is_put_off (hand_of l.growing j) ≡ false
