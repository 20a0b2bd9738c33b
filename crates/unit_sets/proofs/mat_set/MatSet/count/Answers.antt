use Rattle.std.proofs.Common.{arith}
use Rattle.number_sets.proofs.Cited.{length_below}
use Rattle.unit_sets.proofs.mat_set.MatSet.count.Goals as goal

pub overflow_add-result : goal.overflow_add-result
overflow_add-result c =
    let s = c.self.inside in
    let a = length_below 128 s.low c.self.invariant.low.rising c.self.invariant.low.below in
    let b = length_below 128 s.high c.self.invariant.high.rising c.self.invariant.high.below in
    let e = c.count.ensures in
    let f = c.count-2.ensures in
    omega arith
