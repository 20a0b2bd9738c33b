use Rattle.flow_program.specs.flow_rules.LinearProgram.{linear_of}
use Rattle.dual_simplex.proofs.RowStartLemmas.{AreWritten}
use Rattle.dual_simplex.proofs.start.start_rows.Given as goal

abbrev pub invariant-loop-c : goal.invariant-loop-c
invariant-loop-c l = AreWritten (linear_of
    l.program) l.width l.size.units l.fn.entries l.entries l.c
