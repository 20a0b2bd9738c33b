use Rattle.std.proofs.Common.{◌∙◌, ◌≡◌, refl, sym, ap, ℤ, ◌*ℤ◌, not, ◌==◌, SFits, rules, to_z}
use Rattle.std.proofs.Common.{get_or, pos, ℕ, ◌<◌, true, length, subst, arith}
use Rattle.std.specs.Int.{w128}
use Rattle.std.proofs.lemmas.Int.{to_z-of_z}
use Rattle.pgraph.specs.number_sets.Sets.{has, kept}
use Rattle.pgraph.proofs.number_sets.Cited.{first_none, length_below}
use Rattle.pgraph.specs.pns_rules.Shape.{Shape}
use Rattle.pgraph.specs.flow_rules.Net.{net_of, trillion, beside}
use Rattle.flow_program.specs.Entry.{entry}
use Rattle.flow_program.proofs.WalkLemmas.{next_of, head_had, IsNext, is_next, shorter, next_had}
use Rattle.flow_program.proofs.WalkLemmas.{next_below}
use Rattle.flow_program.proofs.CostSumLemmas.{cost_past, cost_sum_more, cost_sum_room, cost_value}
use Rattle.flow_program.proofs.CostSumLemmas.{cost_in_range, cost_first_past}
use Rattle.flow_program.proofs.cost.cost_of.Goals as goal

pub returns-clause-value : goal.returns-clause-value
returns-clause-value c =
    let d = c.ranges.d in
    let known : (u : ℕ) → has c.args.set u ≡ true → u < length c.args.problem.now.units =
    subst (λ (g : Shape). (u : ℕ) → has c.args.set u ≡ true → u < g.units) c.requires.graph
    c.requires.known in
    cost_value (net_of c.args.problem.now) c.args.set
    c.into_iter-u-iterator.ensures.into_iter_gives.1 known (entry c.by_unit-size_at.result)
    (beside c.args.set c.args.sizes.now) c.by_unit-size_at.ensures c.args.d
    _ c.loop-u.at c.loop-u.u-iterator c.in-None.ensures.steps.0
    (simp to_z-of_z at c.loop-u.invariant.so_far)

pub returns-clause-in_range : goal.returns-clause-in_range
returns-clause-in_range c =
    let d = c.ranges.d in
    let known : (u : ℕ) → has c.args.set u ≡ true → u < length c.args.problem.now.units =
    subst (λ (g : Shape). (u : ℕ) → has c.args.set u ≡ true → u < g.units) c.requires.graph
    c.requires.known in
    cost_in_range (net_of c.args.problem.now) c.args.set
    c.into_iter-u-iterator.ensures.into_iter_gives.1 known (entry c.by_unit-size_at.result)
    (beside c.args.set c.args.sizes.now) c.by_unit-size_at.ensures c.args.d
    _ c.loop-u.at c.loop-u.u-iterator c.in-None.ensures.steps.0
    (simp to_z-of_z at c.loop-u.invariant.so_far)

pub put_rates-materials-requires-clause-unit : goal.put_rates-materials-requires-clause-unit
put_rates-materials-requires-clause-unit c =
    subst (λ (g : Shape). c.in-Some.u < g.units) c.requires.graph
    (c.requires.known c.in-Some.u
    (c.loop-u.invariant.so_far.within c.in-Some.u
    (head_had c.loop-u.u-iterator c.in-Some.u c.next.new.self c.in-Some.ensures.steps)))

pub size_cost-each-requires-clause-unit : goal.size_cost-each-requires-clause-unit
size_cost-each-requires-clause-unit c =
    subst (λ (g : Shape). c.in-Some.u < g.units) c.requires.graph
    (c.requires.known c.in-Some.u
    (c.loop-u.invariant.so_far.within c.in-Some.u
    (head_had c.loop-u.u-iterator c.in-Some.u c.next.new.self c.in-Some.ensures.steps)))

pub fixed_cost-requires : goal.fixed_cost-requires
fixed_cost-requires c =
    subst (λ (g : Shape). c.in-Some.u < g.units) c.requires.graph
    (c.requires.known c.in-Some.u
    (c.loop-u.invariant.so_far.within c.in-Some.u
    (head_had c.loop-u.u-iterator c.in-Some.u c.next.new.self c.in-Some.ensures.steps)))

pub with_unit-requires : goal.with_unit-requires
with_unit-requires c =
    let d = c.ranges.d in
    let few =
    length_below 128 c.args.set c.into_iter-u-iterator.ensures.into_iter_gives.1.rising
    c.into_iter-u-iterator.ensures.into_iter_gives.1.below in
    let r =
    cost_sum_room (net_of c.args.problem.now) (entry c.by_unit-size_at.result) c.args.d
    c.args.set (to_z w128 c.loop-u.sum-bits) c.loop-u.at c.loop-u.u-iterator few
    (simp to_z-of_z at c.loop-u.invariant.so_far) in
    omega arith

pub overflow_add-at : goal.overflow_add-at
overflow_add-at c =
    let d = c.ranges.d in
    let few =
    length_below 128 c.args.set c.into_iter-u-iterator.ensures.into_iter_gives.1.rising
    c.into_iter-u-iterator.ensures.into_iter_gives.1.below in
    let r =
    cost_sum_room (net_of c.args.problem.now) (entry c.by_unit-size_at.result) c.args.d
    c.args.set (to_z w128 c.loop-u.sum-bits) c.loop-u.at c.loop-u.u-iterator few
    (simp to_z-of_z at c.loop-u.invariant.so_far) in
    omega arith

pub returns-in-Err-clause-past : goal.returns-in-Err-clause-past
returns-in-Err-clause-past c =
    let d = c.ranges.d in
    let next : IsNext 128 c.loop-u.u-iterator c.in-Some.u c.next.new.self
    = next_of 128 c.loop-u.u-iterator c.in-Some.u c.next.new.self c.loop-u.invariant.is_set
    c.in-Some.ensures.steps in
    let f : SFits w128 c.trillionfold-fixed.result = search rules in
    let g : SFits w128 c.fixed_cost.result = search rules in
    let e : SFits w128 c.size_cost-each.result = search rules in
    let s : SFits w128 (get_or c.by_unit-size_at.result c.in-Some.u (pos 0)) = search rules in
    let known : (u : ℕ) → has c.args.set u ≡ true → u < length c.args.problem.now.units =
    subst (λ (g : Shape). (u : ℕ) → has c.args.set u ≡ true → u < g.units) c.requires.graph
    c.requires.known in
    cost_first_past (net_of c.args.problem.now) c.args.set
    c.into_iter-u-iterator.ensures.into_iter_gives.1 known (entry c.by_unit-size_at.result)
    (beside c.args.set c.args.sizes.now) c.by_unit-size_at.ensures c.args.d c.in-Err.past.at
    (cost_past (net_of c.args.problem.now) (entry c.by_unit-size_at.result) c.args.d c.args.set
    (to_z w128 c.loop-u.sum-bits) c.loop-u.at c.loop-u.u-iterator c.in-Some.u c.next.new.self
    next
    c.trillionfold-fixed.result c.size_cost-each.result
    (get_or c.by_unit-size_at.result c.in-Some.u (pos 0))
    (simp to_z-of_z at c.trillionfold-fixed.ensures.value
    ∙ ap (λ (z : ℤ). z *ℤ trillion) c.fixed_cost.ensures.value) c.size_cost-each.ensures.value
    refl (simp to_z-of_z at c.loop-u.invariant.so_far)
    c.in-Err.past.at c.in-Err.ensures.from_start (simp to_z-of_z at c.in-Err.ensures.past))

pub loop-u-preserved : goal.loop-u-preserved
loop-u-preserved c = record {
  is_set =
      (next_of 128 c.loop-u.u-iterator c.in-Some.u c.next.new.self c.loop-u.invariant.is_set
      c.in-Some.ensures.steps).set;
  so_far = let d = c.ranges.d in
      let next : IsNext 128 c.loop-u.u-iterator c.in-Some.u c.next.new.self
      = next_of 128 c.loop-u.u-iterator c.in-Some.u c.next.new.self c.loop-u.invariant.is_set
      c.in-Some.ensures.steps in
      let f : SFits w128 c.trillionfold-fixed.result = search rules in
      let g : SFits w128 c.fixed_cost.result = search rules in
      let e : SFits w128 c.size_cost-each.result = search rules in
      let s : SFits w128 (get_or c.by_unit-size_at.result c.in-Some.u (pos 0)) = search rules in
      let t : SFits w128 c.in-Ok.total = search rules in
      simp to_z-of_z
      (cost_sum_more (net_of c.args.problem.now) (entry c.by_unit-size_at.result) c.args.d
      c.args.set (to_z w128 c.loop-u.sum-bits) c.loop-u.at c.loop-u.u-iterator c.in-Some.u
      c.next.new.self next
      c.trillionfold-fixed.result c.size_cost-each.result
      (get_or c.by_unit-size_at.result c.in-Some.u (pos 0))
      (simp to_z-of_z at c.trillionfold-fixed.ensures.value
      ∙ ap (λ (z : ℤ). z *ℤ trillion) c.fixed_cost.ensures.value) c.size_cost-each.ensures.value
      refl (simp to_z-of_z at c.loop-u.invariant.so_far)
      c.in-Ok.total (simp to_z-of_z at c.in-Ok.ensures.value)
      (simp to_z-of_z at c.in-Ok.ensures.in_range));
}
