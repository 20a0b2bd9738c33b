use Rattle.std.proofs.Common.{◌<◌, ◌≤◌, length, SFits, arith}
use Rattle.std.specs.Int.{w128}
use Rattle.std.proofs.lemmas.Int.{to_z-of_z}
use Rattle.flow_program.proofs.exact_numbers.Cited.{fits_from_range}
use Rattle.flow_program.specs.flow_rules.LinearProgram.{linear_of}
use Rattle.dual_simplex.proofs.SizeLemmas.{put_more, put_in_range}
use Rattle.dual_simplex.proofs.flow_sizes.put_sizes.Goals as goal

pub size_within-requires-clause-den : goal.size_within-requires-clause-den
size_within-requires-clause-den c = λ p v. let f =
    c.ranges.den in simp to_z-of_z (c.requires.den p v)

pub loop-unit-preserved : goal.loop-unit-preserved
loop-unit-preserved c =
    let f : SFits w128 c.size_within.result = fits_from_range _ c.size_within.ensures.in_range in
    let h : c.loop-unit.unit < length c.loop-unit.flows = omega arith in
    simp to_z-of_z
    (put_more (linear_of c.args.program.now) c.args.rows.now c.loop-unit.flows c.loop-unit.unit
    c.size_within.result h c.size_within.ensures.size c.size_within.ensures.in_range
    c.loop-unit.invariant)

pub returns-clause-in_range : goal.returns-clause-in_range
returns-clause-in_range c =
    let h : length c.loop-unit.flows ≤ c.loop-unit.unit = omega arith in
    put_in_range (linear_of c.args.program.now) c.args.rows.now c.loop-unit.flows c.loop-unit.unit h
    c.loop-unit.invariant
