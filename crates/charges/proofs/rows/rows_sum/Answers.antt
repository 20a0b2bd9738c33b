use Rattle.std.proofs.Common.{to_z, refl, SFits, rules, get_or, pos, arith}
use Rattle.std.specs.Int.{w128}
use Rattle.std.proofs.lemmas.Int.{to_z-of_z}
use Rattle.structure_list.proofs.number_sets.Cited.{length_below}
use Rattle.structure_list.specs.pgraph.View.{node_of}
use Rattle.structure_list.specs.flow_rules.Net.{net_of}
use Rattle.flow_program.specs.Entry.{entry}
use Rattle.flow_program.proofs.Cited.{next_of}
use Rattle.charges.proofs.RowLemmas.{row_sum_room, row_past, row_sum_more}
use Rattle.charges.proofs.rows.rows_sum.Goals as goal

pub with_least-requires : goal.with_least-requires
with_least-requires c =
    let few = length_below 256 c.args.rows c.into_iter-j-iterator.ensures.into_iter_gives.1.rising
    c.into_iter-j-iterator.ensures.into_iter_gives.1.below in
    let r = row_sum_room (net_of c.args.problem.now) (node_of c.args.node.now) (entry c.args.ys.now)
    c.args.rows (to_z w128 c.loop-j.sum-bits) c.loop-j.at c.loop-j.j-iterator few
    c.loop-j.invariant.so_far in
    record { room = omega arith }

pub returns-in-Err-clause-past : goal.returns-in-Err-clause-past
returns-in-Err-clause-past c =
    let y : SFits w128 (get_or c.args.ys.now c.in-Some.j (pos 0)) = search rules in
    let lo : SFits w128 c.row_range-range.result.low = search rules in
    let hi : SFits w128 c.row_range-range.result.high = search rules in
    row_past (net_of c.args.problem.now) (node_of c.args.node.now) (entry c.args.ys.now) c.args.rows
    (to_z w128 c.loop-j.sum-bits) c.loop-j.at c.loop-j.j-iterator c.in-Some.j c.next.new.self
    (next_of 256 c.loop-j.j-iterator c.in-Some.j c.next.new.self c.loop-j.invariant.is_set
    c.in-Some.ensures.steps)
    (get_or c.args.ys.now c.in-Some.j (pos 0)) c.row_range-range.result.low
    c.row_range-range.result.high refl c.row_range-range.ensures.low c.row_range-range.ensures.high
    c.loop-j.invariant.so_far
    c.in-Err.past.at c.in-Err.ensures.from_start (simp to_z-of_z at c.in-Err.ensures.past)

pub loop-j-preserved : goal.loop-j-preserved
loop-j-preserved c = record {
  is_set =
      (next_of 256 c.loop-j.j-iterator c.in-Some.j c.next.new.self c.loop-j.invariant.is_set
      c.in-Some.ensures.steps).set;
  so_far = let y : SFits w128 (get_or c.args.ys.now c.in-Some.j (pos 0)) = search rules in
      let lo : SFits w128 c.row_range-range.result.low = search rules in
      let hi : SFits w128 c.row_range-range.result.high = search rules in
      let t : SFits w128 c.in-Ok.next.sum = search rules in
      simp to_z-of_z
      (row_sum_more (net_of c.args.problem.now) (node_of c.args.node.now) (entry c.args.ys.now)
      c.args.rows (to_z w128 c.loop-j.sum-bits) c.loop-j.at c.loop-j.j-iterator c.in-Some.j
      c.next.new.self
      (next_of 256 c.loop-j.j-iterator c.in-Some.j c.next.new.self c.loop-j.invariant.is_set
      c.in-Some.ensures.steps)
      (get_or c.args.ys.now c.in-Some.j (pos 0)) c.row_range-range.result.low
      c.row_range-range.result.high refl c.row_range-range.ensures.low
      c.row_range-range.ensures.high c.loop-j.invariant.so_far
      c.in-Ok.next.sum c.in-Ok.next.at (simp to_z-of_z at c.in-Ok.ensures.value)
      c.in-Ok.ensures.count (simp to_z-of_z at c.in-Ok.ensures.in_range));
}

pub returns-clause-small : goal.returns-clause-small
returns-clause-small c =
    let few = length_below 256 c.args.rows c.into_iter-j-iterator.ensures.into_iter_gives.1.rising
    c.into_iter-j-iterator.ensures.into_iter_gives.1.below in
    row_sum_room (net_of c.args.problem.now) (node_of c.args.node.now) (entry c.args.ys.now)
    c.args.rows (to_z w128 c.loop-j.sum-bits) c.loop-j.at c.loop-j.j-iterator few
    c.loop-j.invariant.so_far
