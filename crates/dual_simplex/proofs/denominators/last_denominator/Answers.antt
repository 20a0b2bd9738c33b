use Rattle.std.proofs.Common.{◌≡◌, ◌<◌, SFits, arith, ap, ◌∙◌, ℕ}
use Rattle.std.specs.Int.{w128}
use Rattle.std.proofs.lemmas.Int.{to_z-of_z}
use Rattle.flow_program.proofs.exact_numbers.Cited.{fits_from_range}
use Rattle.dual_simplex.proofs.DenominatorLemmas.{first_round_more, first_round_end}
use Rattle.dual_simplex.proofs.DenominatorLemmas.{first_round_past}
use Rattle.dual_simplex.proofs.denominators.last_denominator.Goals as goal

pub returns-in_default-clause-past : goal.returns-in_default-clause-past
returns-in_default-clause-past c =
    let h : c.loop-unit.unit < c.args.rows.now.units = omega arith in
    first_round_past c.args.rows.now c.loop-unit.unit _ h c.loop-unit.invariant
    c.in_default.ensures.basic c.in_default.ensures.past

pub loop-unit-preserved : goal.loop-unit-preserved
loop-unit-preserved c =
    let f : SFits w128 c.in-Some.next = fits_from_range _ c.in-Some.ensures.in_range in
    simp to_z-of_z
    (first_round_more c.args.rows.now c.loop-unit.unit _ c.in-Some.next c.loop-unit.invariant
    c.in-Some.ensures.positive c.in-Some.ensures.in_range c.in-Some.ensures.found)

pub returns-clause-last : goal.returns-clause-last
returns-clause-last c = λ p v.
    let e : c.loop-unit.unit ≡ c.args.rows.now.units = omega arith in
    c.loop-unit.invariant.last p v ∙ ap (λ (k : ℕ). v.den k) e

pub returns-clause-formed : goal.returns-clause-formed
returns-clause-formed c =
    let e : c.loop-unit.unit ≡ c.args.rows.now.units = omega arith in
    first_round_end c.args.rows.now c.loop-unit.unit _ e c.loop-unit.invariant
