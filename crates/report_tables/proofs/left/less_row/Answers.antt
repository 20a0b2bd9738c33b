use Rattle.std.proofs.Common.{SFits, rules, ◌*ℤ◌, ◌-ℤ◌}
use Rattle.std.specs.Int.{w64, w128}
use Rattle.std.proofs.lemmas.Int.{to_z-of_z}
use Rattle.report_tables.proofs.Lefts.{fits_in_range}
use Rattle.report_tables.proofs.left.less_row.Goals as goal

pub overflow_mul-paid : goal.overflow_mul-paid
overflow_mul-paid c =
    let y = c.ranges.y in
    let q : SFits w64 c.args.rate = search rules in
    let r : SFits w128 c.args.rate = search rules in
    simp to_z-of_z (fits_in_range (c.args.y *ℤ c.args.rate) c.requires.product)

pub overflow_sub-result : goal.overflow_sub-result
overflow_sub-result c =
    let y = c.ranges.y in
    let l = c.ranges.left in
    let q : SFits w64 c.args.rate = search rules in
    let r : SFits w128 c.args.rate = search rules in
    let p : SFits w128 (c.args.y *ℤ c.args.rate) =
    fits_in_range (c.args.y *ℤ c.args.rate) c.requires.product in
    simp to_z-of_z
    (fits_in_range (c.args.left -ℤ c.args.y *ℤ c.args.rate) c.requires.difference)

pub returns : goal.returns
returns c =
    let y = c.ranges.y in
    let l = c.ranges.left in
    let q : SFits w64 c.args.rate = search rules in
    let r : SFits w128 c.args.rate = search rules in
    let p : SFits w128 (c.args.y *ℤ c.args.rate) =
    fits_in_range (c.args.y *ℤ c.args.rate) c.requires.product in
    let d : SFits w128 (c.args.left -ℤ c.args.y *ℤ c.args.rate) =
    fits_in_range (c.args.left -ℤ c.args.y *ℤ c.args.rate) c.requires.difference in
    simp to_z-of_z
