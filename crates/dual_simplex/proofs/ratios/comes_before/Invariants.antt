use Rattle.std.proofs.Common.{◌≡◌, ℕ, ◌<◌, ◌*ℤ◌}
use Rattle.dual_simplex.specs.Candidates.{vector}
use Rattle.dual_simplex.proofs.ratios.comes_before.Given as goal

abbrev pub invariant-loop-place : goal.invariant-loop-place
invariant-loop-place l = (q : ℕ) → q < l.place → l.right.size *ℤ vector l.rows l.left.column q ≡ l.left.size *ℤ vector l.rows l.right.column q
