use Rattle.std.proofs.Common.{◌∙◌, refl, sym, ap, SFits, rules, to_z, ℤ, ℕ, ◌==◌, not, length}
use Rattle.std.proofs.Common.{arith, ◌+◌, ◌≤◌, ◌+ℤ◌}
use Rattle.std.specs.Int.{w128}
use Rattle.std.proofs.lemmas.Int.{to_z-of_z}
use Rattle.pgraph.specs.number_sets.Sets.{kept}
use Rattle.pgraph.proofs.number_sets.Cited.{length_below}
use Rattle.pgraph.specs.View.{node_of}
use Rattle.pgraph.specs.flow_rules.Net.{net_of}
use Rattle.flow_program.specs.Entry.{entry}
use Rattle.flow_program.proofs.WalkLemmas.{next_of, head_had, is_next, shorter, next_had}
use Rattle.flow_program.proofs.WalkLemmas.{next_below}
use Rattle.pgraph.specs.flow_rules.Relaxed.{stays}
use Rattle.flow_program.specs.Columns.{column_steps}
use Rattle.flow_program.proofs.NodeSetLemmas.{listed_had}
use Rattle.flow_program.proofs.BoundLemmas.{length_of_column}
use Rattle.flow_program.proofs.BoundSumLemmas.{unit_sum_room, unit_past, unit_sum_more, same_column}
use Rattle.flow_program.proofs.BoundSumLemmas.{same_part}
use Rattle.flow_program.proofs.bound.with_units.Goals as goal

pub put_rates-materials-requires-clause-unit : goal.put_rates-materials-requires-clause-unit
put_rates-materials-requires-clause-unit c =
    (listed_had (length c.args.problem.now.units) (stays (node_of c.args.node.now)) c.args.set
    c.in-Some.u c.requires.units
    (c.loop-u.invariant.so_far.within c.in-Some.u
    (head_had c.loop-u.u-iterator c.in-Some.u c.next.new.self c.in-Some.ensures.steps))).0

pub unit_numbers-unit-requires-clause-unit : goal.unit_numbers-unit-requires-clause-unit
unit_numbers-unit-requires-clause-unit c =
    (listed_had (length c.args.problem.now.units) (stays (node_of c.args.node.now)) c.args.set
    c.in-Some.u c.requires.units
    (c.loop-u.invariant.so_far.within c.in-Some.u
    (head_had c.loop-u.u-iterator c.in-Some.u c.next.new.self c.in-Some.ensures.steps))).0

pub with_unit-requires-clause-room : goal.with_unit-requires-clause-room
with_unit-requires-clause-room c =
    let sum = c.ranges.sum in
    let d = c.ranges.d in
    let few =
    length_below 128 c.args.set c.into_iter-u-iterator.ensures.into_iter_gives.1.rising
    c.into_iter-u-iterator.ensures.into_iter_gives.1.below in
    let r =
    unit_sum_room (net_of c.args.problem.now) (node_of c.args.node.now) c.args.d
    (entry c.args.ys.now) c.args.set c.args.sum (to_z w128 c.loop-u.total-bits) c.args.start
    c.loop-u.at c.loop-u.u-iterator few c.requires.room
    (simp to_z-of_z at c.loop-u.invariant.so_far) in
    omega arith

pub returns-in-Err-clause-past : goal.returns-in-Err-clause-past
returns-in-Err-clause-past c =
    let sum = c.ranges.sum in
    let d = c.ranges.d in
    let there =
    listed_had (length c.args.problem.now.units) (stays (node_of c.args.node.now)) c.args.set
    c.in-Some.u c.requires.units
    (c.loop-u.invariant.so_far.within c.in-Some.u
    (head_had c.loop-u.u-iterator c.in-Some.u c.next.new.self c.in-Some.ensures.steps)) in
    let co : SFits w128 c.unit_numbers-unit.result.cost = search rules in
    let lo : SFits w128 c.unit_numbers-unit.result.low = search rules in
    let hi : SFits w128 c.unit_numbers-unit.result.high = search rules in
    unit_past (net_of c.args.problem.now) (node_of c.args.node.now) c.args.d (entry c.args.ys.now)
    c.args.set c.args.sum (to_z w128 c.loop-u.total-bits) c.args.start c.loop-u.at
    c.loop-u.u-iterator c.in-Some.u c.next.new.self
    (next_of 128 c.loop-u.u-iterator c.in-Some.u c.next.new.self c.loop-u.invariant.is_set
    c.in-Some.ensures.steps)
    (column_steps c.args.d c.unit_numbers-unit.result.cost c.unit_numbers-unit.result.low
    c.unit_numbers-unit.result.high (entry c.args.ys.now)
    (entry c.put_rates-materials.new.rates) c.put_rates-materials.result
    (to_z w128 c.loop-u.total-bits))
    (same_column c.args.problem.now c.is_valid.ensures.well_formed (node_of c.args.node.now)
    c.args.d (entry c.args.ys.now) c.in-Some.u c.put_rates-materials.result
    c.put_rates-materials.new.rates c.rises.ensures c.put_rates-materials.ensures there.0
    there.1
    c.unit_numbers-unit.result.cost c.unit_numbers-unit.result.low c.unit_numbers-unit.result.high
    c.unit_numbers-unit.ensures.cost c.unit_numbers-unit.ensures.low
    c.unit_numbers-unit.ensures.high (to_z w128 c.loop-u.total-bits))
    (simp to_z-of_z at c.loop-u.invariant.so_far)
    c.in-Err.past.at c.in-Err.ensures.from_start (simp to_z-of_z at c.in-Err.ensures.past)

pub loop-u-preserved : goal.loop-u-preserved
loop-u-preserved c = record {
  is_set =
      (next_of 128 c.loop-u.u-iterator c.in-Some.u c.next.new.self c.loop-u.invariant.is_set
      c.in-Some.ensures.steps).set;
  so_far = let sum = c.ranges.sum in
      let d = c.ranges.d in
      let there =
      listed_had (length c.args.problem.now.units) (stays (node_of c.args.node.now)) c.args.set
      c.in-Some.u c.requires.units
      (c.loop-u.invariant.so_far.within c.in-Some.u
      (head_had c.loop-u.u-iterator c.in-Some.u c.next.new.self c.in-Some.ensures.steps)) in
      let co : SFits w128 c.unit_numbers-unit.result.cost = search rules in
      let lo : SFits w128 c.unit_numbers-unit.result.low = search rules in
      let hi : SFits w128 c.unit_numbers-unit.result.high = search rules in
      let t : SFits w128 c.in-Ok.next = search rules in
      let few =
      length_below 256 c.put_rates-materials.result c.rises.ensures.rising
      c.rises.ensures.below in
      let count = c.in-Ok.ensures.count in
      let long =
      length_of_column c.args.d c.unit_numbers-unit.result.cost c.unit_numbers-unit.result.low
      c.unit_numbers-unit.result.high (entry c.args.ys.now)
      (entry c.put_rates-materials.new.rates) c.put_rates-materials.result
      (to_z w128 c.loop-u.total-bits) in
      let small : c.in-Ok.next_at ≤ c.loop-u.at + 515 = omega arith in
      simp to_z-of_z
      (unit_sum_more (net_of c.args.problem.now) (node_of c.args.node.now) c.args.d
      (entry c.args.ys.now) c.args.set c.args.sum (to_z w128 c.loop-u.total-bits) c.args.start
      c.loop-u.at c.loop-u.u-iterator c.in-Some.u c.next.new.self
      (next_of 128 c.loop-u.u-iterator c.in-Some.u c.next.new.self c.loop-u.invariant.is_set
      c.in-Some.ensures.steps)
      (column_steps c.args.d c.unit_numbers-unit.result.cost c.unit_numbers-unit.result.low
      c.unit_numbers-unit.result.high (entry c.args.ys.now)
      (entry c.put_rates-materials.new.rates) c.put_rates-materials.result
      (to_z w128 c.loop-u.total-bits))
      (same_column c.args.problem.now c.is_valid.ensures.well_formed (node_of c.args.node.now)
      c.args.d (entry c.args.ys.now) c.in-Some.u c.put_rates-materials.result
      c.put_rates-materials.new.rates c.rises.ensures c.put_rates-materials.ensures there.0
      there.1
      c.unit_numbers-unit.result.cost c.unit_numbers-unit.result.low c.unit_numbers-unit.result.high
      c.unit_numbers-unit.ensures.cost c.unit_numbers-unit.ensures.low
      c.unit_numbers-unit.ensures.high (to_z w128 c.loop-u.total-bits))
      (simp to_z-of_z at c.loop-u.invariant.so_far)
      c.in-Ok.next c.in-Ok.next_at
      (simp to_z-of_z at c.in-Ok.ensures.value
      ∙ ap (λ (z : ℤ). to_z w128 c.loop-u.total-bits +ℤ z)
      (same_part c.args.problem.now c.is_valid.ensures.well_formed (node_of c.args.node.now)
      c.args.d (entry c.args.ys.now) c.in-Some.u c.put_rates-materials.result
      c.put_rates-materials.new.rates c.rises.ensures c.put_rates-materials.ensures there.0
      there.1
      c.unit_numbers-unit.result.cost c.unit_numbers-unit.result.low c.unit_numbers-unit.result.high
      c.unit_numbers-unit.ensures.cost c.unit_numbers-unit.ensures.low
      c.unit_numbers-unit.ensures.high))
      (simp to_z-of_z at c.in-Ok.ensures.in_range)
      (count ∙ ap (λ (k : ℕ). c.loop-u.at + k) (sym long)) small);
}
