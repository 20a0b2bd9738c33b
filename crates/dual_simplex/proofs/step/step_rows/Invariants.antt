use Rattle.dual_simplex.proofs.StepLemmas.{IsSteppedTo}
use Rattle.dual_simplex.proofs.step.step_rows.Given as goal

abbrev pub invariant-loop-c : goal.invariant-loop-c
invariant-loop-c l = IsSteppedTo l.width l.basic l.fn.entries l.pivot l.l l.e l.entries l.c
