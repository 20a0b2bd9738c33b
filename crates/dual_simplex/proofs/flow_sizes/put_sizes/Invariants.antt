use Rattle.flow_program.specs.flow_rules.LinearProgram.{linear_of}
use Rattle.dual_simplex.proofs.SizeLemmas.{ArePut}
use Rattle.dual_simplex.proofs.flow_sizes.put_sizes.Given as goal

abbrev pub invariant-loop-unit : goal.invariant-loop-unit
invariant-loop-unit l = ArePut (linear_of l.program) l.rows l.flows l.unit
