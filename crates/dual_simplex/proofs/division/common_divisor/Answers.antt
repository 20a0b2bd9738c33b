use Rattle.std.proofs.Common.{pos, SFits, rules, get_or}
use Rattle.std.specs.Int.{w128}
use Rattle.std.proofs.lemmas.Int.{to_z-of_z}
use Rattle.dual_simplex.proofs.DivisionLemmas.{so_far_more}
use Rattle.dual_simplex.proofs.division.common_divisor.Goals as goal

pub loop-entry-preserved : goal.loop-entry-preserved
loop-entry-preserved c =
    let a = c.ranges.first in
    let f : SFits w128 c.gcd-common.result = search rules in
    let e : SFits w128 (get_or c.args.row.now c.loop-entry.entry-index (pos 0)) = search rules in
    let h = simp to_z-of_z at c.gcd-common.ensures.greatest in
    simp to_z-of_z
    (so_far_more c.args.first c.args.row.now c.loop-entry.entry-index _ c.gcd-common.result
    c.loop-entry-test.true (simp to_z-of_z at c.loop-entry.invariant)
    c.gcd-common.ensures.not_negative c.gcd-common.ensures.in_range h)
