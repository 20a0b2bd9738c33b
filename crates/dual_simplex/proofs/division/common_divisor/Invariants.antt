use Rattle.dual_simplex.proofs.DivisionLemmas.{IsSoFar}
use Rattle.dual_simplex.proofs.division.common_divisor.Given as goal

abbrev pub invariant-loop-entry : goal.invariant-loop-entry
invariant-loop-entry l = IsSoFar l.fn.first l.row l.entry-index l.common
