use Rattle.std.proofs.Common.{◌∙◌, refl, sym, SFits, rules, to_z, get_or, pos, ◌==◌, not, arith}
use Rattle.std.specs.Int.{w128}
use Rattle.std.proofs.lemmas.Int.{to_z-of_z}
use Rattle.pgraph.specs.number_sets.Sets.{kept}
use Rattle.pgraph.proofs.number_sets.Cited.{length_below}
use Rattle.pgraph.specs.View.{node_of}
use Rattle.pgraph.specs.flow_rules.Net.{net_of}
use Rattle.flow_program.specs.Entry.{entry}
use Rattle.flow_program.proofs.WalkLemmas.{next_of, head_had, is_next, shorter, next_had}
use Rattle.flow_program.proofs.WalkLemmas.{next_below}
use Rattle.flow_program.proofs.ProgramLemmas.{range_formed}
use Rattle.flow_program.proofs.BoundSumLemmas.{row_sum_room, row_past, row_sum_more}
use Rattle.flow_program.proofs.bound.with_rows.Goals as goal

pub with_least-requires-clause-ordered : goal.with_least-requires-clause-ordered
with_least-requires-clause-ordered c =
    let lo : SFits w128 c.row_range-range.result.low = search rules in
    let hi : SFits w128 c.row_range-range.result.high = search rules in
    let known =
    c.requires.known c.in-Some.j
    (c.loop-j.invariant.so_far.within c.in-Some.j
    (head_had c.loop-j.j-iterator c.in-Some.j c.next.new.self c.in-Some.ensures.steps)) in
    let formed =
    range_formed c.args.problem.now c.is_valid.ensures.well_formed (node_of c.args.node.now)
    c.in-Some.j known in
    simp to_z-of_z (rw (c.row_range-range.ensures.low, c.row_range-range.ensures.high) formed.2)

pub with_least-requires-clause-room : goal.with_least-requires-clause-room
with_least-requires-clause-room c =
    let sum = c.ranges.sum in
    let few =
    length_below 256 c.args.rows c.into_iter-j-iterator.ensures.into_iter_gives.1.rising
    c.into_iter-j-iterator.ensures.into_iter_gives.1.below in
    let r =
    row_sum_room (net_of c.args.problem.now) (node_of c.args.node.now) (entry c.args.ys.now)
    c.args.rows c.args.sum (to_z w128 c.loop-j.total-bits) c.loop-j.at c.loop-j.j-iterator few
    (simp to_z-of_z at c.loop-j.invariant.so_far) in
    omega arith

pub overflow_add-at : goal.overflow_add-at
overflow_add-at c =
    let sum = c.ranges.sum in
    let few =
    length_below 256 c.args.rows c.into_iter-j-iterator.ensures.into_iter_gives.1.rising
    c.into_iter-j-iterator.ensures.into_iter_gives.1.below in
    let r =
    row_sum_room (net_of c.args.problem.now) (node_of c.args.node.now) (entry c.args.ys.now)
    c.args.rows c.args.sum (to_z w128 c.loop-j.total-bits) c.loop-j.at c.loop-j.j-iterator few
    (simp to_z-of_z at c.loop-j.invariant.so_far) in
    omega arith

pub returns-in-Err-clause-past : goal.returns-in-Err-clause-past
returns-in-Err-clause-past c =
    let sum = c.ranges.sum in
    let y : SFits w128 (get_or c.args.ys.now c.in-Some.j (pos 0)) = search rules in
    let lo : SFits w128 c.row_range-range.result.low = search rules in
    let hi : SFits w128 c.row_range-range.result.high = search rules in
    row_past (net_of c.args.problem.now) (node_of c.args.node.now) (entry c.args.ys.now) c.args.rows
    c.args.sum (to_z w128 c.loop-j.total-bits) c.loop-j.at c.loop-j.j-iterator c.in-Some.j
    c.next.new.self
    (next_of 256 c.loop-j.j-iterator c.in-Some.j c.next.new.self c.loop-j.invariant.is_set
    c.in-Some.ensures.steps)
    (get_or c.args.ys.now c.in-Some.j (pos 0)) c.row_range-range.result.low
    c.row_range-range.result.high refl c.row_range-range.ensures.low
    c.row_range-range.ensures.high (simp to_z-of_z at c.loop-j.invariant.so_far)
    c.in-Err.past.at c.in-Err.ensures.from_start (simp to_z-of_z at c.in-Err.ensures.past)

pub loop-j-preserved : goal.loop-j-preserved
loop-j-preserved c = record {
  is_set =
      (next_of 256 c.loop-j.j-iterator c.in-Some.j c.next.new.self c.loop-j.invariant.is_set
      c.in-Some.ensures.steps).set;
  so_far = let sum = c.ranges.sum in
      let y : SFits w128 (get_or c.args.ys.now c.in-Some.j (pos 0)) = search rules in
      let lo : SFits w128 c.row_range-range.result.low = search rules in
      let hi : SFits w128 c.row_range-range.result.high = search rules in
      let t : SFits w128 c.in-Ok.next = search rules in
      simp to_z-of_z
      (row_sum_more (net_of c.args.problem.now) (node_of c.args.node.now) (entry c.args.ys.now)
      c.args.rows c.args.sum (to_z w128 c.loop-j.total-bits) c.loop-j.at c.loop-j.j-iterator
      c.in-Some.j c.next.new.self
      (next_of 256 c.loop-j.j-iterator c.in-Some.j c.next.new.self c.loop-j.invariant.is_set
      c.in-Some.ensures.steps)
      (get_or c.args.ys.now c.in-Some.j (pos 0)) c.row_range-range.result.low
      c.row_range-range.result.high refl c.row_range-range.ensures.low
      c.row_range-range.ensures.high (simp to_z-of_z at c.loop-j.invariant.so_far)
      c.in-Ok.next (simp to_z-of_z at c.in-Ok.ensures.value)
      (simp to_z-of_z at c.in-Ok.ensures.in_range));
}
