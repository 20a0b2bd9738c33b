use Rattle.std.specs.Prelude.{◌≡◌, ◌≤◌, ◌*◌, ◌^◌, ℕ, ℤ, ◌*ℤ◌, unsigned_abs}
use Rattle.flow_program.specs.integer_laws.Total.{total_below}
use Rattle.flow_program.specs.flow_rules.LinearProgram.{LinearProgram, linear_of}
use Rattle.dual_simplex.proofs.entries.flow_at_lows.Given as goal

-- the sum over the units below i
pub record IsSumTo (p : LinearProgram) (row : ℕ) (sum : ℤ) (i : ℕ) : Type 0 where
  pub value : sum ≡ total_below i (λ u. p.rate row u *ℤ p.low u)
  pub small : unsigned_abs sum ≤ i * 10 ^ 30

abbrev pub invariant-loop-unit : goal.invariant-loop-unit
invariant-loop-unit l = IsSumTo (linear_of l.program) l.row l.sum l.unit
