use Rattle.std.proofs.Common.{◌≡◌, length, SFits, rules}
use Rattle.std.specs.Int.{w128}
use Rattle.std.proofs.lemmas.Int.{to_z-of_z}
use Rattle.flow_program.proofs.exact_numbers.Cited.{fits_from_range}
use Rattle.flow_program.specs.flow_rules.LinearProgram.{linear_of}
use Rattle.flow_program.specs.flow_rules.ReadFlows.{rounds}
use Rattle.dual_simplex.specs.Rows.{basis}
use Rattle.dual_simplex.specs.Reading.{formed_of, second_round}
use Rattle.dual_simplex.specs.Step.{step_of}
use Rattle.dual_simplex.proofs.ReadingLemmas.{reading_of}
use Rattle.dual_simplex.proofs.RoundLemmas.{formed_out}
use Rattle.dual_simplex.proofs.SizeLemmas.{past_flow, are_read}
use Rattle.dual_simplex.proofs.reading.read_flows.Goals as goal

pub returns-in-Err-clause-past : goal.returns-in-Err-clause-past
returns-in-Err-clause-past c =
    let p = linear_of c.args.program.now in
    let v = reading_of p c.args.rows.now c.requires.size c.requires.own in
    let e = c.in-Err.past in
    past_flow v (record { unit = e.unit; step = step_of e.which }) (c.in-Err.ensures.past p v)

pub returns-in-Err-check_sizes-clause-past : goal.returns-in-Err-check_sizes-clause-past
returns-in-Err-check_sizes-clause-past c =
    let p = linear_of c.args.program.now in
    let r = c.args.rows.now in
    let v = reading_of p r c.requires.size c.requires.own in
    let e = c.in-Err-check_sizes.past in
    past_flow v (record { unit = e.unit; step = step_of e.which })
    (formed_out (formed_of v) (rounds p (basis r)) (second_round r)
    (record { unit = e.unit; step = step_of e.which }) (c.in-Ok.ensures.formed p v)
    (c.in-Err-check_sizes.ensures.past v))

pub check_sizes-requires-clause-den : goal.check_sizes-requires-clause-den
check_sizes-requires-clause-den c = λ p v.
    let f : SFits w128 c.in-Ok.den = fits_from_range _ c.in-Ok.ensures.in_range in
    simp to_z-of_z (c.in-Ok.ensures.last p v)

pub put_sizes-requires-clause-den : goal.put_sizes-requires-clause-den
put_sizes-requires-clause-den c = λ p v.
    let f : SFits w128 c.in-Ok.den = fits_from_range _ c.in-Ok.ensures.in_range in
    simp to_z-of_z (c.in-Ok.ensures.last p v)

pub returns-clause-read : goal.returns-clause-read
returns-clause-read c =
    let p = linear_of c.args.program.now in
    let r = c.args.rows.now in
    let v = reading_of p r c.requires.size c.requires.own in
    let f : SFits w128 c.in-Ok.den = fits_from_range _ c.in-Ok.ensures.in_range in
    let len : length c.put_sizes.new.flows ≡ r.units = search rules in
    simp to_z-of_z
    (are_read v c.put_sizes.new.flows c.in-Ok.den len (c.in-Ok.ensures.formed p v)
    (c.in_default.ensures.in_range v) (c.put_sizes.ensures.sizes v) (c.in-Ok.ensures.last p v))
