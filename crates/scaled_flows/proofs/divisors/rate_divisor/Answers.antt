use Rattle.std.proofs.Common.{rules, SFits, to_z, subst, ℤ}
use Rattle.std.specs.Prelude.{unsigned_abs}
use Rattle.std.specs.Int.{w64, w128, ◌∣◌}
use Rattle.std.proofs.lemmas.Int.{to_z-of_z}
use Rattle.tree_rules.specs.problem_rules.Problem.{rate_of}
use Rattle.flow_program.specs.pgraph.View.{node_of}
use Rattle.tree_rules.specs.flow_rules.Net.{net_of}
use Rattle.tree_rules.specs.flow_rules.Relaxed.{row_low, row_high}
use Rattle.scaled_flows.proofs.FoundLemmas.{rate_begins, rate_more, rate_end, through}
use Rattle.scaled_flows.proofs.divisors.rate_divisor.Goals as goal

pub units-preserved : goal.units-preserved
units-preserved c =
    let r : SFits w64 c.rate_at.result = search rules in
    let r' : SFits w128 c.rate_at.result = search rules in
    let s : SFits w128 c.gcd-start.result = search rules in
    let g : SFits w128 c.gcd-common.result = search rules in
    let h = simp to_z-of_z at c.gcd-common.ensures.greatest in
    let i = simp to_z-of_z at c.units.invariant in
    simp to_z-of_z
    (rate_more c.args.problem.now c.args.j c.gcd-start.result (to_z w128 c.units.common-bits)
    c.gcd-common.result c.units.u c.gcd-common.ensures.in_range h.0
    (subst (λ (v : ℤ). unsigned_abs c.gcd-common.result ∣ unsigned_abs v) c.rate_at.ensures h.1) i)

pub units-init : goal.units-init
units-init c =
    let s : SFits w128 c.gcd-start.result = search rules in
    simp to_z-of_z
    (rate_begins c.args.problem.now c.args.j c.gcd-start.result c.gcd-start.ensures.in_range)

pub returns-clause-rates : goal.returns-clause-rates
returns-clause-rates c =
    let s : SFits w128 c.gcd-start.result = search rules in
    let n : SFits w64 c.narrowed.result = search rules in
    let h = simp to_z-of_z at c.units.invariant in
    let d = c.narrowed.ensures.divides in
    let past = c.units-test.false in
    simp to_z-of_z
    (λ i l. through c.narrowed.result (to_z w128 c.units.common-bits)
    (rate_of c.args.problem.now c.args.j i) d
    (h.rates i
    (rate_end c.args.problem.now c.units.u c.units-2.result.now c.units-2.ensures past i l)))

pub returns-clause-low : goal.returns-clause-low
returns-clause-low c =
    let lo : SFits w128 c.row_range-range.result.low = search rules in
    let hi : SFits w128 c.row_range-range.result.high = search rules in
    let s : SFits w128 c.gcd-start.result = search rules in
    let n : SFits w64 c.narrowed.result = search rules in
    let g = simp to_z-of_z at c.gcd-start.ensures.greatest in
    let h = simp to_z-of_z at c.units.invariant in
    let d = c.narrowed.ensures.divides in
    simp to_z-of_z
    (through c.narrowed.result c.gcd-start.result
    (row_low (net_of c.args.problem.now) (node_of c.args.taken.now) c.args.j)
    (through c.narrowed.result (to_z w128 c.units.common-bits) c.gcd-start.result d h.of_start)
    (subst (λ (v : ℤ). unsigned_abs c.gcd-start.result ∣ unsigned_abs v)
    c.row_range-range.ensures.low g.0))

pub returns-clause-high : goal.returns-clause-high
returns-clause-high c =
    let lo : SFits w128 c.row_range-range.result.low = search rules in
    let hi : SFits w128 c.row_range-range.result.high = search rules in
    let s : SFits w128 c.gcd-start.result = search rules in
    let n : SFits w64 c.narrowed.result = search rules in
    let g = simp to_z-of_z at c.gcd-start.ensures.greatest in
    let h = simp to_z-of_z at c.units.invariant in
    let d = c.narrowed.ensures.divides in
    simp to_z-of_z
    (through c.narrowed.result c.gcd-start.result
    (row_high (net_of c.args.problem.now) (node_of c.args.taken.now) c.args.j)
    (through c.narrowed.result (to_z w128 c.units.common-bits) c.gcd-start.result d h.of_start)
    (subst (λ (v : ℤ). unsigned_abs c.gcd-start.result ∣ unsigned_abs v)
    c.row_range-range.ensures.high g.1))
