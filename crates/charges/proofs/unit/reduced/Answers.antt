use Rattle.std.proofs.Common.{◌∙◌, refl, ap, SFits, rules, to_z, get_or, pos, ℤ, arith, ◌-ℤ◌}
use Rattle.std.specs.Int.{w64, w128}
use Rattle.std.proofs.lemmas.Int.{to_z-of_z}
use Rattle.structure_list.proofs.number_sets.Cited.{length_below}
use Rattle.flow_program.specs.Entry.{entry}
use Rattle.flow_program.proofs.Cited.{next_of, product_past, difference_past, reduced_more}
use Rattle.charges.proofs.UnitLemmas.{reduced_small, reduced_count}
use Rattle.charges.proofs.unit.reduced.Goals as goal

pub overflow_add-result : goal.overflow_add-result
overflow_add-result c =
    let cost = c.ranges.cost in
    let few =
    length_below 256 c.args.materials c.into_iter-j-iterator.ensures.into_iter_gives.1.rising
    c.into_iter-j-iterator.ensures.into_iter_gives.1.below in
    let r = reduced_small (entry c.args.ys.now) (entry c.args.rates.now) c.args.materials
    c.args.cost (to_z w128 c.loop-j.rest-bits) c.args.start c.loop-j.at c.loop-j.j-iterator few
    (simp to_z-of_z at c.loop-j.invariant.so_far) in
    let l = r.0 in
    let room = c.requires.room in
    omega arith

pub overflow_add-at : goal.overflow_add-at
overflow_add-at c =
    let cost = c.ranges.cost in
    let few =
    length_below 256 c.args.materials c.into_iter-j-iterator.ensures.into_iter_gives.1.rising
    c.into_iter-j-iterator.ensures.into_iter_gives.1.below in
    let r = reduced_small (entry c.args.ys.now) (entry c.args.rates.now) c.args.materials
    c.args.cost (to_z w128 c.loop-j.rest-bits) c.args.start c.loop-j.at c.loop-j.j-iterator few
    (simp to_z-of_z at c.loop-j.invariant.so_far) in
    let l = r.0 in
    let room = c.requires.room in
    omega arith

pub returns-clause-count : goal.returns-clause-count
returns-clause-count c =
    let cost = c.ranges.cost in
    reduced_count (entry c.args.ys.now) (entry c.args.rates.now) c.args.materials c.args.cost
    (to_z w128 c.loop-j.rest-bits) c.args.start c.loop-j.at c.loop-j.j-iterator
    c.in-None.ensures.steps.0 (simp to_z-of_z at c.loop-j.invariant.so_far)

pub returns-clause-small : goal.returns-clause-small
returns-clause-small c =
    let cost = c.ranges.cost in
    let few =
    length_below 256 c.args.materials c.into_iter-j-iterator.ensures.into_iter_gives.1.rising
    c.into_iter-j-iterator.ensures.into_iter_gives.1.below in
    let r = reduced_small (entry c.args.ys.now) (entry c.args.rates.now) c.args.materials
    c.args.cost (to_z w128 c.loop-j.rest-bits) c.args.start c.loop-j.at c.loop-j.j-iterator few
    (simp to_z-of_z at c.loop-j.invariant.so_far) in
    let l = r.0 in
    omega arith

pub returns-in_default-clause-past : goal.returns-in_default-clause-past
returns-in_default-clause-past c =
    let cost = c.ranges.cost in
    let y : SFits w128 (get_or c.args.ys.now c.in-Some.j (pos 0)) = search rules in
    let q : SFits w64 (get_or c.args.rates.now c.in-Some.j (pos 0)) = search rules in
    let r : SFits w128 (get_or c.args.rates.now c.in-Some.j (pos 0)) = search rules in
    product_past (entry c.args.ys.now) (entry c.args.rates.now) c.args.materials c.args.cost
    (to_z w128 c.loop-j.rest-bits) c.args.start c.loop-j.at c.loop-j.j-iterator c.in-Some.j
    c.next.new.self
    (next_of 256 c.loop-j.j-iterator c.in-Some.j c.next.new.self c.loop-j.invariant.is_set
    c.in-Some.ensures.steps)
    (get_or c.args.ys.now c.in-Some.j (pos 0)) (get_or c.args.rates.now c.in-Some.j (pos 0)) refl
    refl (simp to_z-of_z at c.loop-j.invariant.so_far) (simp to_z-of_z at c.in_default.ensures)

pub returns-in_default-checked_difference-clause-past :
    goal.returns-in_default-checked_difference-clause-past
returns-in_default-checked_difference-clause-past c =
    let cost = c.ranges.cost in
    let y : SFits w128 (get_or c.args.ys.now c.in-Some.j (pos 0)) = search rules in
    let q : SFits w64 (get_or c.args.rates.now c.in-Some.j (pos 0)) = search rules in
    let r : SFits w128 (get_or c.args.rates.now c.in-Some.j (pos 0)) = search rules in
    let p : SFits w128 c.in-Some-quick_product.paid = search rules in
    let h = simp to_z-of_z at c.in-Some-quick_product.ensures in
    let n = simp to_z-of_z at c.in_default-checked_difference.ensures in
    difference_past (entry c.args.ys.now) (entry c.args.rates.now) c.args.materials c.args.cost
    (to_z w128 c.loop-j.rest-bits) c.args.start c.loop-j.at c.loop-j.j-iterator c.in-Some.j
    c.next.new.self
    (next_of 256 c.loop-j.j-iterator c.in-Some.j c.next.new.self c.loop-j.invariant.is_set
    c.in-Some.ensures.steps)
    (get_or c.args.ys.now c.in-Some.j (pos 0)) (get_or c.args.rates.now c.in-Some.j (pos 0)) refl
    refl (simp to_z-of_z at c.loop-j.invariant.so_far) h.0 (rw (← h.1) n)

pub loop-j-preserved : goal.loop-j-preserved
loop-j-preserved c = record {
  is_set =
      (next_of 256 c.loop-j.j-iterator c.in-Some.j c.next.new.self c.loop-j.invariant.is_set
      c.in-Some.ensures.steps).set;
  so_far = let cost = c.ranges.cost in
      let y : SFits w128 (get_or c.args.ys.now c.in-Some.j (pos 0)) = search rules in
      let q : SFits w64 (get_or c.args.rates.now c.in-Some.j (pos 0)) = search rules in
      let r : SFits w128 (get_or c.args.rates.now c.in-Some.j (pos 0)) = search rules in
      let p : SFits w128 c.in-Some-quick_product.paid = search rules in
      let t : SFits w128 c.in-Some-checked_difference.difference = search rules in
      let h = simp to_z-of_z at c.in-Some-quick_product.ensures in
      let k = simp to_z-of_z at c.in-Some-checked_difference.ensures in
      simp to_z-of_z
      (reduced_more (entry c.args.ys.now) (entry c.args.rates.now) c.args.materials c.args.cost
      (to_z w128 c.loop-j.rest-bits) c.args.start c.loop-j.at c.loop-j.j-iterator c.in-Some.j
      c.next.new.self
      (next_of 256 c.loop-j.j-iterator c.in-Some.j c.next.new.self c.loop-j.invariant.is_set
      c.in-Some.ensures.steps)
      (get_or c.args.ys.now c.in-Some.j (pos 0)) (get_or c.args.rates.now c.in-Some.j (pos 0)) refl
      refl (simp to_z-of_z at c.loop-j.invariant.so_far)
      c.in-Some-checked_difference.difference h.0 (rw h.1 at k.0)
      (k.1 ∙ ap (λ (z : ℤ). to_z w128 c.loop-j.rest-bits -ℤ z) h.1));
}
