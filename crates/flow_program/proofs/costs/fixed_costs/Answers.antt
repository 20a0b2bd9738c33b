use Rattle.std.proofs.Common.{◌∙◌, refl, sym, SFits, rules, to_z, arith, ◌+ℤ◌}
use Rattle.std.specs.Int.{w128}
use Rattle.std.proofs.lemmas.Int.{to_z-of_z}
use Rattle.flow_program.proofs.SizeLemmas.{fits_small, size_add}
use Rattle.flow_program.proofs.WalkLemmas.{next_of, head_had, IsNext, is_next, shorter, has_next}
use Rattle.flow_program.proofs.CostLemmas.{sum_more, sum_small}
use Rattle.flow_program.proofs.costs.fixed_costs.Goals as goal

pub trillionfold-requires : goal.trillionfold-requires
trillionfold-requires c =
    sum_small c.args.problem.now c.args.set _ c.loop-u.u-iterator
    c.into_iter-u-iterator.ensures.into_iter_gives.1 c.loop-u.invariant.so_far

pub fixed_cost-sum-requires : goal.fixed_cost-sum-requires
fixed_cost-sum-requires c =
    let next : IsNext 128 c.loop-u.u-iterator c.in-Some.u c.next.new.self =
    next_of 128 c.loop-u.u-iterator c.in-Some.u c.next.new.self c.loop-u.invariant.is_set
    c.in-Some.ensures.steps in
    c.requires c.in-Some.u
    (c.loop-u.invariant.so_far.within c.in-Some.u
    (has_next 128 c.loop-u.u-iterator c.in-Some.u c.next.new.self next))

pub overflow_add-sum : goal.overflow_add-sum
overflow_add-sum c =
    let w : SFits w128 c.fixed_cost-sum.result = search rules in
    let small =
    sum_small c.args.problem.now c.args.set (to_z w128 c.loop-u.sum-bits) c.loop-u.u-iterator
    c.into_iter-u-iterator.ensures.into_iter_gives.1 c.loop-u.invariant.so_far in
    let both =
    size_add (to_z w128 c.loop-u.sum-bits) c.fixed_cost-sum.result _ _ small
    c.fixed_cost-sum.ensures.small in
    simp to_z-of_z
    (fits_small (to_z w128 c.loop-u.sum-bits +ℤ c.fixed_cost-sum.result) (omega arith))

pub loop-u-preserved : goal.loop-u-preserved
loop-u-preserved c = record {
  is_set =
      (next_of 128 c.loop-u.u-iterator c.in-Some.u c.next.new.self c.loop-u.invariant.is_set
      c.in-Some.ensures.steps).set;
  so_far = let next : IsNext 128 c.loop-u.u-iterator c.in-Some.u c.next.new.self
      = next_of 128 c.loop-u.u-iterator c.in-Some.u c.next.new.self c.loop-u.invariant.is_set
      c.in-Some.ensures.steps in
      let w : SFits w128 c.fixed_cost-sum.result = search rules in
      let small =
      sum_small c.args.problem.now c.args.set (to_z w128 c.loop-u.sum-bits) c.loop-u.u-iterator
      c.into_iter-u-iterator.ensures.into_iter_gives.1 c.loop-u.invariant.so_far in
      let both =
      size_add (to_z w128 c.loop-u.sum-bits) c.fixed_cost-sum.result _ _ small
      c.fixed_cost-sum.ensures.small in
      let f : SFits w128 (to_z w128 c.loop-u.sum-bits +ℤ c.fixed_cost-sum.result) =
      fits_small (to_z w128 c.loop-u.sum-bits +ℤ c.fixed_cost-sum.result) (omega arith) in
      simp to_z-of_z
      (sum_more c.args.problem.now c.args.set (to_z w128 c.loop-u.sum-bits) c.loop-u.u-iterator
      c.in-Some.u c.next.new.self c.fixed_cost-sum.result next
      c.fixed_cost-sum.ensures.value c.fixed_cost-sum.ensures.small c.loop-u.invariant.so_far);
}
