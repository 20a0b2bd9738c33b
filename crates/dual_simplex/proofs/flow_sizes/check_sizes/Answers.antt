use Rattle.std.proofs.Common.{◌≡◌, ◌<◌, arith}
use Rattle.std.proofs.lemmas.Int.{to_z-of_z}
use Rattle.flow_program.specs.flow_rules.LinearProgram.{linear_of}
use Rattle.dual_simplex.specs.Step.{step_of}
use Rattle.dual_simplex.proofs.SizeLemmas.{second_round_more, second_round_end, second_round_past}
use Rattle.dual_simplex.proofs.flow_sizes.check_sizes.Goals as goal

pub checked_size-requires-clause-den : goal.checked_size-requires-clause-den
checked_size-requires-clause-den c = λ p v. let f =
    c.ranges.den in simp to_z-of_z (c.requires.den p v)

pub returns-in-Err-clause-past : goal.returns-in-Err-clause-past
returns-in-Err-clause-past c =
    let h : c.loop-unit.unit < c.args.rows.now.units = omega arith in
    second_round_past (linear_of c.args.program.now) c.args.rows.now c.loop-unit.unit
    (step_of c.in-Err.which) h c.loop-unit.invariant c.in-Err.ensures.past

pub loop-unit-preserved : goal.loop-unit-preserved
loop-unit-preserved c =
    second_round_more (linear_of c.args.program.now) c.args.rows.now c.loop-unit.unit
    c.loop-unit.invariant c.in_default.ensures.in_range

pub returns-clause-in_range : goal.returns-clause-in_range
returns-clause-in_range c =
    let e : c.loop-unit.unit ≡ c.args.rows.now.units = omega arith in
    second_round_end (linear_of c.args.program.now) c.args.rows.now c.loop-unit.unit e
    c.loop-unit.invariant
