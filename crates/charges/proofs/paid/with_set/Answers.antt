use Rattle.std.proofs.Common.{refl, SFits, rules, get_or, pos, arith}
use Rattle.std.specs.Int.{w128}
use Rattle.std.proofs.lemmas.Int.{to_z-of_z}
use Rattle.structure_list.proofs.number_sets.Cited.{length_below}
use Rattle.flow_program.specs.Entry.{entry}
use Rattle.flow_program.proofs.Cited.{next_of}
use Rattle.charges.proofs.PaidLemmas.{set_room, set_past, set_more}
use Rattle.charges.proofs.paid.with_set.Goals as goal

pub overflow_add-at : goal.overflow_add-at
overflow_add-at c =
    let w = c.ranges.weight in
    let few = length_below 128 c.args.units c.into_iter-u-iterator.ensures.into_iter_gives.1.rising
    c.into_iter-u-iterator.ensures.into_iter_gives.1.below in
    let r = set_room (entry c.args.before.now.to) c.args.weight c.args.units c.loop-u.to
    c.args.before.now.at c.loop-u.at c.loop-u.u-iterator few
    (simp to_z-of_z at c.loop-u.invariant.so_far) in
    let l = r.0 in
    let room = c.requires.room in
    omega arith

pub returns-in_default-clause-past : goal.returns-in_default-clause-past
returns-in_default-clause-past c =
    let b : SFits w128 (get_or c.args.before.now.to c.in-Some.u (pos 0)) = search rules in
    let w = c.ranges.weight in
    set_past (entry c.args.before.now.to) c.args.weight c.args.units c.loop-u.to
    c.args.before.now.at c.loop-u.at c.loop-u.u-iterator c.in-Some.u c.next.new.self
    (next_of 128 c.loop-u.u-iterator c.in-Some.u c.next.new.self c.loop-u.invariant.is_set
    c.in-Some.ensures.steps)
    (get_or c.args.before.now.to c.in-Some.u (pos 0)) refl
    (simp to_z-of_z at c.loop-u.invariant.so_far)
    (simp to_z-of_z at c.in_default.ensures)

pub loop-u-preserved : goal.loop-u-preserved
loop-u-preserved c = record {
  is_set =
      (next_of 128 c.loop-u.u-iterator c.in-Some.u c.next.new.self c.loop-u.invariant.is_set
      c.in-Some.ensures.steps).set;
  so_far = let b : SFits w128 (get_or c.args.before.now.to c.in-Some.u (pos 0)) = search rules in
      let w = c.ranges.weight in
      let s : SFits w128 c.in-Some-checked_sum.sum = search rules in
      let h = simp to_z-of_z at c.in-Some-checked_sum.ensures in
      simp to_z-of_z
      (set_more (entry c.args.before.now.to) c.args.weight c.args.units c.loop-u.to
      c.args.before.now.at c.loop-u.at c.loop-u.u-iterator c.in-Some.u c.next.new.self
      (next_of 128 c.loop-u.u-iterator c.in-Some.u c.next.new.self c.loop-u.invariant.is_set
      c.in-Some.ensures.steps)
      (get_or c.args.before.now.to c.in-Some.u (pos 0)) refl
      (simp to_z-of_z at c.loop-u.invariant.so_far)
      c.in-Some-checked_sum.sum h.1 h.0);
}

pub returns-clause-small : goal.returns-clause-small
returns-clause-small c =
    let w = c.ranges.weight in
    let few = length_below 128 c.args.units c.into_iter-u-iterator.ensures.into_iter_gives.1.rising
    c.into_iter-u-iterator.ensures.into_iter_gives.1.below in
    (set_room (entry c.args.before.now.to) c.args.weight c.args.units c.loop-u.to
    c.args.before.now.at c.loop-u.at c.loop-u.u-iterator few
    (simp to_z-of_z at c.loop-u.invariant.so_far)).0
