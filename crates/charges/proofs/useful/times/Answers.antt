use Rattle.std.proofs.Common.{◌^◌, SFits, rules, arith, ◌*ℤ◌}
use Rattle.std.specs.Int.{w64, w128}
use Rattle.std.proofs.lemmas.Int.{to_z-of_z, ints}
use Rattle.flow_program.proofs.Cited.{size_mul, fits_small}
use Rattle.charges.proofs.useful.times.Goals as goal

pub overflow_mul-result : goal.overflow_mul-result
overflow_mul-result c =
    let b = c.ranges.size in
    let p : SFits w64 c.args.rate = search rules in
    let q : SFits w64 c.args.size = search rules in
    let r : SFits w128 c.args.rate = search rules in
    let t : SFits w128 c.args.size = search rules in
    let m = size_mul c.args.rate c.args.size 2000000000000000 (2 ^ 63) c.requires
    (omega (arith, ints)) in
    simp to_z-of_z (fits_small (c.args.rate *ℤ c.args.size) (omega arith))

pub returns-clause-small : goal.returns-clause-small
returns-clause-small c =
    let b = c.ranges.size in
    let p : SFits w64 c.args.rate = search rules in
    let q : SFits w64 c.args.size = search rules in
    let r : SFits w128 c.args.rate = search rules in
    let t : SFits w128 c.args.size = search rules in
    let m = size_mul c.args.rate c.args.size 2000000000000000 (2 ^ 63) c.requires
    (omega (arith, ints)) in
    let f : SFits w128 (c.args.rate *ℤ c.args.size) =
    fits_small (c.args.rate *ℤ c.args.size) (omega arith) in
    simp to_z-of_z (omega arith)
