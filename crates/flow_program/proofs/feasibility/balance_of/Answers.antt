use Rattle.std.proofs.Common.{◌∙◌, refl, sym, ap, SFits, rules, to_z, get_or, pos, ℤ, ◌==◌, not}
use Rattle.std.proofs.Common.{arith, ◌+ℤ◌}
use Rattle.std.specs.Int.{w64, w128}
use Rattle.std.proofs.lemmas.Int.{to_z-of_z}
use Rattle.pgraph.specs.number_sets.Sets.{kept}
use Rattle.pgraph.proofs.number_sets.Cited.{length_below}
use Rattle.flow_program.specs.Entry.{entry}
use Rattle.flow_program.proofs.WalkLemmas.{next_of, head_had, is_next, shorter, next_had}
use Rattle.flow_program.proofs.FeasibleLemmas.{moved_past, sum_past, balance_more, balance_room}
use Rattle.flow_program.proofs.feasibility.balance_of.Goals as goal

pub rate_at-rate-requires : goal.rate_at-rate-requires
rate_at-rate-requires c =
    (c.requires.known c.in-Some.u
    (c.loop-u.invariant.so_far.within c.in-Some.u
    (head_had c.loop-u.u-iterator c.in-Some.u c.next.new.self c.in-Some.ensures.steps)))

pub overflow_add-result : goal.overflow_add-result
overflow_add-result c =
    let few =
    length_below 128 c.args.units c.into_iter-u-iterator.ensures.into_iter_gives.1.rising
    c.into_iter-u-iterator.ensures.into_iter_gives.1.below in
    let r =
    balance_room c.args.problem.now (entry c.args.size_at.now) c.args.j c.args.units
    (to_z w128 c.loop-u.sum-bits) c.args.start c.loop-u.at c.loop-u.u-iterator few
    c.requires.room c.loop-u.invariant.so_far in
    omega arith

pub overflow_add-at : goal.overflow_add-at
overflow_add-at c =
    let few =
    length_below 128 c.args.units c.into_iter-u-iterator.ensures.into_iter_gives.1.rising
    c.into_iter-u-iterator.ensures.into_iter_gives.1.below in
    let r =
    balance_room c.args.problem.now (entry c.args.size_at.now) c.args.j c.args.units
    (to_z w128 c.loop-u.sum-bits) c.args.start c.loop-u.at c.loop-u.u-iterator few
    c.requires.room c.loop-u.invariant.so_far in
    omega arith

pub returns-in_default-clause-past : goal.returns-in_default-clause-past
returns-in_default-clause-past c =
    let q : SFits w64 c.rate_at-rate.result = search rules in
    let r : SFits w128 c.rate_at-rate.result = search rules in
    let sz : SFits w128 (get_or c.args.size_at.now c.in-Some.u (pos 0)) = search rules in
    moved_past c.args.problem.now (entry c.args.size_at.now) c.args.j c.args.units
    (to_z w128 c.loop-u.sum-bits) c.args.start c.loop-u.at c.loop-u.u-iterator c.in-Some.u
    c.next.new.self
    (next_of 128 c.loop-u.u-iterator c.in-Some.u c.next.new.self c.loop-u.invariant.is_set
    c.in-Some.ensures.steps)
    c.rate_at-rate.result (get_or c.args.size_at.now c.in-Some.u (pos 0)) c.rate_at-rate.ensures
    refl c.loop-u.invariant.so_far (simp to_z-of_z at c.in_default.ensures)

pub returns-in_default-checked_sum-clause-past : goal.returns-in_default-checked_sum-clause-past
returns-in_default-checked_sum-clause-past c =
    let q : SFits w64 c.rate_at-rate.result = search rules in
    let r : SFits w128 c.rate_at-rate.result = search rules in
    let sz : SFits w128 (get_or c.args.size_at.now c.in-Some.u (pos 0)) = search rules in
    let p : SFits w128 c.in-Some-checked_product.moved = search rules in
    let h = simp to_z-of_z at c.in-Some-checked_product.ensures in
    let n = simp to_z-of_z at c.in_default-checked_sum.ensures in
    sum_past c.args.problem.now (entry c.args.size_at.now) c.args.j c.args.units
    (to_z w128 c.loop-u.sum-bits) c.args.start c.loop-u.at c.loop-u.u-iterator c.in-Some.u
    c.next.new.self
    (next_of 128 c.loop-u.u-iterator c.in-Some.u c.next.new.self c.loop-u.invariant.is_set
    c.in-Some.ensures.steps)
    c.rate_at-rate.result (get_or c.args.size_at.now c.in-Some.u (pos 0)) c.rate_at-rate.ensures
    refl c.loop-u.invariant.so_far h.0 (rw (← h.1) n)

pub loop-u-preserved : goal.loop-u-preserved
loop-u-preserved c = record {
  is_set =
      (next_of 128 c.loop-u.u-iterator c.in-Some.u c.next.new.self c.loop-u.invariant.is_set
      c.in-Some.ensures.steps).set;
  so_far = let q : SFits w64 c.rate_at-rate.result = search rules in
      let r : SFits w128 c.rate_at-rate.result = search rules in
      let sz : SFits w128 (get_or c.args.size_at.now c.in-Some.u (pos 0)) = search rules in
      let p : SFits w128 c.in-Some-checked_product.moved = search rules in
      let t : SFits w128 c.in-Some-checked_sum.next = search rules in
      let h = simp to_z-of_z at c.in-Some-checked_product.ensures in
      let k = simp to_z-of_z at c.in-Some-checked_sum.ensures in
      simp to_z-of_z
      (balance_more c.args.problem.now (entry c.args.size_at.now) c.args.j c.args.units
      (to_z w128 c.loop-u.sum-bits) c.args.start c.loop-u.at c.loop-u.u-iterator c.in-Some.u
      c.next.new.self
      (next_of 128 c.loop-u.u-iterator c.in-Some.u c.next.new.self c.loop-u.invariant.is_set
      c.in-Some.ensures.steps)
      c.rate_at-rate.result (get_or c.args.size_at.now c.in-Some.u (pos 0)) c.rate_at-rate.ensures
      refl c.loop-u.invariant.so_far
      c.in-Some-checked_sum.next h.0 (rw h.1 at k.0)
      (k.1 ∙ ap (λ (z : ℤ). to_z w128 c.loop-u.sum-bits +ℤ z) h.1));
}
