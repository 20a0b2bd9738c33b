use Rattle.std.proofs.Common.{rules, SFits, arith, pos, ◌<ℤ◌, ◌≤ℤ◌}
use Rattle.std.specs.Int.{w128}
use Rattle.std.proofs.lemmas.Int.{to_z-of_z, ints}
use Rattle.flow_program.proofs.QuotientLemmas.{IsQuotient, is_quotient, within_above, within_whole}
use Rattle.flow_program.proofs.feasibility.is_within.Goals as goal

pub returns-then-rem_euclid-gt0 : goal.returns-then-rem_euclid-gt0
returns-then-rem_euclid-gt0 c =
    let number = c.ranges.number in
    let d = c.ranges.d in
    let floor : SFits w128 c.div_euclid-floor.result = search rules in
    let rest : SFits w128 c.rem_euclid.result = search rules in
    let low : SFits w128 c.args.range.low = search rules in
    let high : SFits w128 c.args.range.high = search rules in
    let q : IsQuotient c.args.number c.args.d c.div_euclid-floor.result c.rem_euclid.result
    = rw (
      simp to_z-of_z at c.div_euclid-floor.ensures,
      simp to_z-of_z at c.rem_euclid.ensures.value,
    )
    (is_quotient c.args.number c.args.d c.requires) in
    let t = simp to_z-of_z at c.if-rem_euclid-gt0.true in
    let sign : pos 0 <ℤ c.rem_euclid.result = omega (arith, ints) in
    let w =
    within_above c.args.number c.args.d c.div_euclid-floor.result c.rem_euclid.result q
    c.args.range.low c.args.range.high sign in
    let g = simp to_z-of_z at c.goes_on_from.ensures in
    (λ h. w.0 (g.0 h), λ h. g.1 (w.1 h))

pub returns-else-rem_euclid-gt0 : goal.returns-else-rem_euclid-gt0
returns-else-rem_euclid-gt0 c =
    let number = c.ranges.number in
    let d = c.ranges.d in
    let floor : SFits w128 c.div_euclid-floor.result = search rules in
    let rest : SFits w128 c.rem_euclid.result = search rules in
    let low : SFits w128 c.args.range.low = search rules in
    let high : SFits w128 c.args.range.high = search rules in
    let q : IsQuotient c.args.number c.args.d c.div_euclid-floor.result c.rem_euclid.result
    = rw (
      simp to_z-of_z at c.div_euclid-floor.ensures,
      simp to_z-of_z at c.rem_euclid.ensures.value,
    )
    (is_quotient c.args.number c.args.d c.requires) in
    let t = simp to_z-of_z at c.if-rem_euclid-gt0.false in
    let sign : c.rem_euclid.result ≤ℤ pos 0 = omega (arith, ints) in
    let w =
    within_whole c.args.number c.args.d c.div_euclid-floor.result c.rem_euclid.result q
    c.args.range.low c.args.range.high sign in
    let g = simp to_z-of_z at c.is_in.ensures in
    (λ h. w.0 (g.0 h), λ h. g.1 (w.1 h))
