-- The multiplier that the row of a column gives to a row of the program: its entry at t less that
-- at w.
use Rattle.std.specs.Prelude.{ℕ, ◌+◌, ◌<◌, ℤ, pos, ◌-ℤ◌, ◌≤ℤ◌}
use Rattle.dual_simplex.specs.Rows.{Rows, table}
use Rattle.dual_simplex.specs.Choice.{columns_of}

abbrev pub multiplier_of : Rows → ℕ → ℕ → ℤ
multiplier_of r c j =
    table r c (r.units + r.units + j) -ℤ table r c (r.units + r.units + r.rows + j)

-- no entry of the row at a column is below 0
abbrev pub IsNotNegative : Rows → ℕ → Type 0
IsNotNegative r c = (k : ℕ) → k < columns_of r → pos 0 ≤ℤ table r c k
