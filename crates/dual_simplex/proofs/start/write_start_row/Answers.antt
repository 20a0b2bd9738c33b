use Rattle.std.proofs.Common.{SFits, rules, ◌≡◌, ◌<◌, ◌+◌, arith, ℕ, ℤ, length}
use Rattle.std.specs.Int.{w128}
use Rattle.std.proofs.lemmas.Int.{to_z-of_z}
use Rattle.flow_program.specs.flow_rules.LinearProgram.{linear_of}
use Rattle.dual_simplex.proofs.RowStartLemmas.{written_more}
use Rattle.dual_simplex.proofs.start.write_start_row.Goals as goal

pub loop-k-preserved : goal.loop-k-preserved
loop-k-preserved c =
    let z : SFits w128 c.entry.result = search rules in
    simp to_z-of_z
    (written_more (linear_of c.args.program.now) c.args.c c.args.row.now c.loop-k.row c.loop-k.k
    c.entry.result c.loop-k.invariant (omega arith) c.entry.ensures.value
    c.entry.ensures.in_range)
