use Rattle.std.proofs.Common.{SFits}
use Rattle.std.specs.Int.{w128}
use Rattle.std.proofs.lemmas.Int.{to_z-of_z}
use Rattle.flow_program.proofs.exact_numbers.Cited.{fits_from_range}
use Rattle.flow_program.specs.flow_rules.LinearProgram.{linear_of}
use Rattle.dual_simplex.specs.Step.{step_of}
use Rattle.dual_simplex.proofs.ReadingLemmas.{reading_of}
use Rattle.dual_simplex.proofs.SizeLemmas.{never_past}
use Rattle.dual_simplex.proofs.flow_sizes.size_within.Goals as goal

pub checked_size-requires-clause-den : goal.checked_size-requires-clause-den
checked_size-requires-clause-den c = λ p v. let f =
    c.ranges.den in simp to_z-of_z (c.requires.den p v)

pub unreachable-requires : goal.unreachable-requires
unreachable-requires c =
    let v =
    reading_of (linear_of c.args.program.now) c.args.rows.now c.requires.size c.requires.own in
    never_past v c.args.unit (record { unit = c.args.unit; step = step_of c.in-Err.field-0 })
    c.requires.unit (c.requires.sizes v) (c.in-Err.ensures.past v)

pub returns-clause-size : goal.returns-clause-size
returns-clause-size c = λ v.
    let f : SFits w128 c.in-Ok.size = fits_from_range _ c.in-Ok.ensures.size_in_range in
    simp to_z-of_z (c.in-Ok.ensures.size v)
