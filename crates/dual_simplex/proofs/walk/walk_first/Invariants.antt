use Rattle.std.specs.Prelude.{ℕ}
use Rattle.flow_program.specs.flow_rules.LinearProgram.{LinearProgram, linear_of}
use Rattle.dual_simplex.specs.Rows.{Rows}
use Rattle.dual_simplex.specs.Walk.{IsInFirst, IsSameRoom}
use Rattle.dual_simplex.proofs.walk.walk_first.Given as goal

pub record IsWalkedTo (p : LinearProgram) (old new : Rows) (unit : ℕ) : Type 0 where
  pub first : IsInFirst p new unit
  pub room : IsSameRoom old new

abbrev pub invariant-loop-unit : goal.invariant-loop-unit
invariant-loop-unit l = IsWalkedTo (linear_of l.program) l.fn.rows l.rows l.unit
