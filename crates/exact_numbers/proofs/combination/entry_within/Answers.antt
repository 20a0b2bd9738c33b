use Rattle.std.proofs.Common.{◌*ℤ◌, ◌-ℤ◌, SFits}
use Rattle.std.proofs.lemmas.Int.{to_z-of_z}
use Rattle.std.specs.Int.{w128}
use Rattle.exact_numbers.proofs.RangeLemmas.{within_from_none, fits_from_range}
use Rattle.exact_numbers.proofs.combination.entry_within.Goals as goal

pub overflow_sub-result : goal.overflow_sub-result
overflow_sub-result c =
    let p = c.ranges.p in
    let x = c.ranges.x in
    let q = c.ranges.q in
    let y = c.ranges.y in
    let h = within_from_none c.args.p c.args.x c.args.q c.args.y c.requires in
    let left : SFits w128 (c.args.p *ℤ c.args.x) = fits_from_range _ h.0 in
    let right : SFits w128 (c.args.q *ℤ c.args.y) = fits_from_range _ h.1 in
    simp to_z-of_z (fits_from_range _ h.2)

pub returns-clause-value : goal.returns-clause-value
returns-clause-value c =
    let p = c.ranges.p in
    let x = c.ranges.x in
    let q = c.ranges.q in
    let y = c.ranges.y in
    let h = within_from_none c.args.p c.args.x c.args.q c.args.y c.requires in
    let left : SFits w128 (c.args.p *ℤ c.args.x) = fits_from_range _ h.0 in
    let right : SFits w128 (c.args.q *ℤ c.args.y) = fits_from_range _ h.1 in
    let all : SFits w128 (c.args.p *ℤ c.args.x -ℤ c.args.q *ℤ c.args.y) = fits_from_range _ h.2 in
    simp to_z-of_z

pub returns-clause-in_range : goal.returns-clause-in_range
returns-clause-in_range c =
    let p = c.ranges.p in
    let x = c.ranges.x in
    let q = c.ranges.q in
    let y = c.ranges.y in
    let h = within_from_none c.args.p c.args.x c.args.q c.args.y c.requires in
    let left : SFits w128 (c.args.p *ℤ c.args.x) = fits_from_range _ h.0 in
    let right : SFits w128 (c.args.q *ℤ c.args.y) = fits_from_range _ h.1 in
    let all : SFits w128 (c.args.p *ℤ c.args.x -ℤ c.args.q *ℤ c.args.y) = fits_from_range _ h.2 in
    simp to_z-of_z h.2
