use Rattle.std.proofs.Common.{◌^◌, SFits, rules, arith, ◌*ℤ◌}
use Rattle.std.specs.Int.{w64, w128}
use Rattle.std.proofs.lemmas.Int.{to_z-of_z, ints}
use Rattle.flow_program.proofs.Cited.{size_mul, fits_small}
use Rattle.charges.proofs.products.short_product.Goals as goal

pub overflow_mul-result : goal.overflow_mul-result
overflow_mul-result c =
    let a = c.ranges.a in
    let b = c.ranges.b in
    let p : SFits w64 c.args.a = search rules in
    let q : SFits w64 c.args.b = search rules in
    let r : SFits w128 c.args.a = search rules in
    let t : SFits w128 c.args.b = search rules in
    let m = size_mul c.args.a c.args.b (2 ^ 63) (2 ^ 63) (omega (arith, ints))
    (omega (arith, ints)) in
    simp to_z-of_z (fits_small (c.args.a *ℤ c.args.b) (omega arith))

pub returns-clause-in_range : goal.returns-clause-in_range
returns-clause-in_range c =
    let a = c.ranges.a in
    let b = c.ranges.b in
    let m = size_mul c.args.a c.args.b (2 ^ 63) (2 ^ 63) (omega (arith, ints))
    (omega (arith, ints)) in
    omega arith
