use Rattle.std.proofs.Common.{◌<◌, ◌≤◌, ◌^◌, sym, arith}
use Rattle.std.proofs.Math.Nat.{div-eq_of_lt, mod-eq_of_lt}
use Rattle.json_text.proofs.LongDivision.{many_places, few_places, power_positive}
use Rattle.json_text.proofs.value.parts_of.Goals as goal

pub returns-then-places-gt38-clause-whole : goal.returns-then-places-gt38-clause-whole
returns-then-places-gt38-clause-whole c =
    let fits : c.args.number < 2 ^ 128 = c.ranges.number.fits in
    sym (div-eq_of_lt (many_places c.args.number c.args.places fits c.if-places-gt38.true))

pub returns-then-places-gt38-clause-rest : goal.returns-then-places-gt38-clause-rest
returns-then-places-gt38-clause-rest c =
    let fits : c.args.number < 2 ^ 128 = c.ranges.number.fits in
    sym (mod-eq_of_lt (many_places c.args.number c.args.places fits c.if-places-gt38.true))

pub pow-scale-requires : goal.pow-scale-requires
pow-scale-requires c = few_places c.args.places c.if-places-gt38.false

pub nonzero_div-result : goal.nonzero_div-result
nonzero_div-result c = let p = power_positive c.args.places in omega (arith, p, c.pow-scale.ensures)

pub nonzero_rem-result : goal.nonzero_rem-result
nonzero_rem-result c = let p = power_positive c.args.places in omega (arith, p, c.pow-scale.ensures)
