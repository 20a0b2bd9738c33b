use Rattle.flow_program.specs.flow_rules.LinearProgram.{linear_of}
use Rattle.dual_simplex.proofs.RowStartLemmas.{IsWritten}
use Rattle.dual_simplex.proofs.start.write_start_row.Given as goal

abbrev pub invariant-loop-k : goal.invariant-loop-k
invariant-loop-k l = IsWritten (linear_of l.program) l.c l.fn.row l.row l.k
