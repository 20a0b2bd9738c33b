use Rattle.std.proofs.Common.{◌≡◌, ℕ, ◌<◌, pos, ◌≤ℤ◌, true}
use Rattle.dual_simplex.specs.Rows.{table, basis}
use Rattle.dual_simplex.specs.Choice.{columns_of}
use Rattle.dual_simplex.proofs.leaves.leaving.Given as goal

abbrev pub invariant-loop-column : goal.invariant-loop-column
invariant-loop-column l = (k : ℕ) → k < l.column → basis l.rows k ≡ true → pos 0 ≤ℤ table l.rows k (columns_of l.rows)
