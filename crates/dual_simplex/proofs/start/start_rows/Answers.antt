use Rattle.std.proofs.Common.{◌≡◌, ◌+◌, ℕ, ℤ}
use Rattle.flow_program.specs.flow_rules.LinearProgram.{linear_of}
use Rattle.dual_simplex.proofs.RowStartLemmas.{row_more}
use Rattle.dual_simplex.proofs.start.start_rows.Goals as goal

pub loop-c-preserved : goal.loop-c-preserved
loop-c-preserved c =
    let e = c.start_row.ensures in
    row_more (linear_of c.args.program.now) c.args.width c.args.size.units c.args.entries.now
    c.loop-c.entries c.start_row.new.entries c.loop-c.c c.loop-c.invariant e.length e.value
    e.others e.in_range
