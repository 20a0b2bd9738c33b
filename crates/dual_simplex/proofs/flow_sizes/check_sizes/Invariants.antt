use Rattle.flow_program.specs.flow_rules.LinearProgram.{linear_of}
use Rattle.dual_simplex.proofs.SizeLemmas.{IsSecondRound}
use Rattle.dual_simplex.proofs.flow_sizes.check_sizes.Given as goal

abbrev pub invariant-loop-unit : goal.invariant-loop-unit
invariant-loop-unit l = IsSecondRound (linear_of l.program) l.rows l.unit
