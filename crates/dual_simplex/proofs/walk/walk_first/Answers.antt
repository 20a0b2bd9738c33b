use Rattle.std.proofs.Common.{arith}
use Rattle.flow_program.specs.flow_rules.LinearProgram.{linear_of}
use Rattle.dual_simplex.proofs.FirstLemmas.{first_ends}
use Rattle.dual_simplex.proofs.walk.walk_first.Goals as goal

pub returns-clause-done : goal.returns-clause-done
returns-clause-done c =
    let p = linear_of c.args.program.now in
    let inv = c.loop-unit.invariant in
    let n = c.requires.first.on_path.size.units in
    let e = c.units-unit-end.ensures in
    let f = c.loop-unit-test.false in
    let a = c.loop-unit.auto.unit-end in
    first_ends p c.loop-unit.rows c.loop-unit.unit inv.first (omega (arith, n, e, f, a))
