use Rattle.std.proofs.Common.{ℕ, ◌≡◌, ◌++◌, List, take, drop, map}
use Rattle.std.specs.Prelude.{ℤ, neg_ℤ}
use Rattle.flow_program.specs.integer_laws.Range.{AllInRange}
use Rattle.dual_simplex.proofs.pivot_row.negate_all.Given as goal

pub record IsNegated (old new : List ℤ) (k : ℕ) : Type 0 where
  pub items : new ≡ map neg_ℤ (take k old) ++ drop k old
  pub in_range : AllInRange new

abbrev pub invariant-loop-k : goal.invariant-loop-k
invariant-loop-k l = IsNegated l.fn.row l.row l.k
