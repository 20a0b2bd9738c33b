-- A number that grows with each pivot of the second kind, and what it stays below.
use Rattle.std.specs.Prelude.{ℕ, suc, ◌+◌, ◌*◌, ◌^◌}
use Rattle.flow_program.specs.flow_rules.LinearProgram.{LinearProgram}
use Rattle.flow_program.specs.flow_rules.Columns.{columns, right_at, scale_at}
use Rattle.flow_program.specs.flow_rules.Vectors.{value_top, value_bottom}
use Rattle.flow_program.specs.flow_rules.Rank.{rank, power}
use Rattle.dual_simplex.specs.Rows.{Rows, table, basis}

-- the rank of the list of the values of the basis, whose numbers are below 2^127
unfoldable pub rank_of : LinearProgram → Rows → ℕ
rank_of p r =
    rank (2 ^ 127) (suc (columns p)) (value_top (basis r) (table r) (scale_at p) (right_at p))
    (value_bottom (basis r) (table r) (scale_at p))

unfoldable pub ranks : LinearProgram → ℕ
ranks p = power (2 * 2 ^ 127 * (2 ^ 127 * 2 ^ 127) + 1) (suc (columns p))
