use Rattle.dual_simplex.proofs.PutLemmas.{IsPut}
use Rattle.dual_simplex.proofs.dual.put_multipliers.Given as goal

abbrev pub invariant-loop-j : goal.invariant-loop-j
invariant-loop-j l = IsPut l.rows l.c l.ys l.j
