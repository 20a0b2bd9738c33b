-- The places of rows at which an entry is below 0, for the rows of a program of their size.
use Rattle.std.specs.Prelude.{◌≡◌, ℕ, suc, ◌+◌, ◌<◌, pos, ◌≤ℤ◌}
use Rattle.flow_program.specs.flow_rules.LinearProgram.{LinearProgram}
use Rattle.dual_simplex.specs.Rows.{Rows, table}

-- the program has as many units and rows
pub record IsOfSize (p : LinearProgram) (r : Rows) : Type 0 where
  pub units : p.units ≡ r.units
  pub rows : p.rows ≡ r.rows

abbrev pub columns_of : Rows → ℕ
columns_of r = r.units + r.units + r.rows + r.rows

abbrev pub scale_of : Rows → ℕ
scale_of r = suc (columns_of r)

-- no entry of the cost row at a column is below 0, so no pivot of the first kind is left
abbrev pub IsDualFeasible : Rows → Type 0
IsDualFeasible r = (k : ℕ) → k < columns_of r → pos 0 ≤ℤ table r (scale_of r) k
