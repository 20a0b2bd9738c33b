use Rattle.std.proofs.Common.{◌≡◌, ◌<◌, ℕ, None}
use Rattle.abb_search.specs.Worth.{refutation_of}
use Rattle.abb_search.specs.Closing.{hand_of}
use Rattle.abb_search.proofs.closing.has_refuted.Given as goal

abbrev pub invariant-leaves : goal.invariant-leaves
invariant-leaves l = (j : ℕ) → j < l.leaf → refutation_of (hand_of l.growing j) ≡ None
