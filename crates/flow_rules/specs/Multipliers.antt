-- The multipliers that a row of a tableau gives to the rows of the program: its entry at t less
-- that at w.
use Rattle.std.specs.Prelude.{ℕ, ℤ, ◌-ℤ◌, List, ◌∷◌, map}
use Rattle.std.specs.List.{range_with_len}
use Rattle.integer_laws.specs.Reduced.{IsReduced}
use Rattle.flow_rules.specs.LinearProgram.{LinearProgram}
use Rattle.flow_rules.specs.Columns.{t_at, w_at, scale_at}

abbrev pub multiplier : LinearProgram → (ℕ → ℤ) → ℕ → ℤ
multiplier p r j = r (t_at p j) -ℤ r (w_at p j)

abbrev pub multipliers : LinearProgram → (ℕ → ℤ) → List ℤ
multipliers p r = map (multiplier p r) (range_with_len 0 p.rows)

-- d and ys are the scale and the multipliers of a cost row, divided by their greatest common
-- divisor
abbrev pub AreMultipliers : LinearProgram → (ℕ → ℤ) → ℤ → List ℤ → Type 0
AreMultipliers p costs d ys = IsReduced (costs (scale_at p) ∷ multipliers p costs) (d ∷ ys)

-- ys are the multipliers of a row that can't be met, divided by their greatest common divisor
abbrev pub AreRefuting : LinearProgram → (ℕ → ℤ) → List ℤ → Type 0
AreRefuting p row ys = IsReduced (multipliers p row) ys
