use Rattle.dual_simplex.proofs.DenominatorLemmas.{IsFirstRound}
use Rattle.dual_simplex.proofs.denominators.last_denominator.Given as goal

abbrev pub invariant-loop-unit : goal.invariant-loop-unit
invariant-loop-unit l = IsFirstRound l.rows l.unit l.den
