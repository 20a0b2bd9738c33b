use Rattle.std.specs.Prelude.{◌-◌}
use Rattle.flow_program.specs.flow_rules.LinearProgram.{LinearProgram, linear_of}
use Rattle.dual_simplex.specs.Rows.{Rows}
use Rattle.dual_simplex.specs.Walk.{IsInSecond, IsSameRoom}
use Rattle.dual_simplex.specs.Measure.{rank_of, ranks}
use Rattle.dual_simplex.proofs.walk.walk_second.Given as goal

pub record IsWalked (p : LinearProgram) (old new : Rows) : Type 0 where
  pub second : IsInSecond p new
  pub room : IsSameRoom old new

abbrev pub invariant-pivots : goal.invariant-pivots
invariant-pivots l = IsWalked (linear_of l.program) l.fn.rows l.rows

abbrev pub decreases-pivots : goal.decreases-pivots
decreases-pivots l = ranks (linear_of l.program) - rank_of (linear_of l.program) l.rows
