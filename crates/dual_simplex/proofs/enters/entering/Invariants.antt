use Rattle.dual_simplex.specs.Candidates.{IsBestBelow}
use Rattle.dual_simplex.proofs.enters.entering.Given as goal

abbrev pub invariant-loop-column : goal.invariant-loop-column
invariant-loop-column l = IsBestBelow l.rows l.l l.column l.best
