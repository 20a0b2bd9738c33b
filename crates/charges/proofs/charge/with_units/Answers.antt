use Rattle.std.proofs.Common.{◌≡◌, ◌+◌, ◌-◌, ◌<◌, ◌*ℤ◌, ◌∙◌, sym, ap, subst, SFits, rules, get_or}
use Rattle.std.proofs.Common.{pos, to_z, ℕ, List, length, arith}
use Rattle.std.specs.Int.{w128}
use Rattle.std.proofs.lemmas.Int.{to_z-of_z}
use Rattle.structure_list.specs.number_sets.Sets.{has, IsSet, IsWithin}
use Rattle.structure_list.proofs.number_sets.Cited.{length_below}
use Rattle.structure_list.specs.problem_rules.Problem.{Problem}
use Rattle.structure_list.specs.problem_rules.WellFormed.{IsWellFormed}
use Rattle.structure_list.proofs.problem_rules.Cited.{well_formed_from_valid}
use Rattle.structure_list.specs.pns_rules.Shape.{shape_of}
use Rattle.structure_list.specs.pgraph.View.{node_of}
use Rattle.structure_list.specs.flow_rules.Net.{net_of, trillion, size_cost}
use Rattle.structure_list.specs.flow_rules.Relaxed.{stays}
use Rattle.flow_program.specs.Entry.{entry}
use Rattle.flow_program.specs.Rates.{AreRates}
use Rattle.flow_program.proofs.Cited.{listed_had, next_of, IsNext, has_next, rest_within}
use Rattle.charges.specs.declared.unit.Terms.{Terms}
use Rattle.charges.specs.Known.{facts_of}
use Rattle.charges.specs.Bends.{knees_in}
use Rattle.charges.proofs.GroundLemmas.{IsChargeSum, knees_are, column_past, column_fits}
use Rattle.charges.proofs.GroundLemmas.{column_long, column_adds, charge_sum_begins}
use Rattle.charges.proofs.GroundLemmas.{charge_unit_past, charge_sum_more, charge_sum_ends}
use Rattle.charges.proofs.charge.with_units.Goals as goal

pub put_rates-materials-requires-clause-unit : goal.put_rates-materials-requires-clause-unit
put_rates-materials-requires-clause-unit c =
    let p = c.args.site.now in
    let n = node_of c.args.ground.now.node in
    let f = facts_of c.args.ground.now.facts in
    let m = c.args.multipliers.now in
    let y = entry m.ys in
    let e = c.problem-problem.ensures.same in
    let formed : IsWellFormed p = well_formed_from_valid p c.problem-problem.ensures.valid in
    let next : IsNext 128 c.loop-u.u-iterator c.in-Some.u c.next.new.self =
    next_of 128 c.loop-u.u-iterator c.in-Some.u c.next.new.self c.loop-u.invariant.is_set
    c.in-Some.ensures.steps in
    let there = listed_had (length p.units) (stays n) c.args.ground.now.units c.in-Some.u
    c.requires.ground.units
    (c.loop-u.invariant.within c.in-Some.u
    (has_next 128 c.loop-u.u-iterator c.in-Some.u c.next.new.self next)) in
    subst (λ (q : Problem). c.in-Some.u < length q.units) (sym e) there.0

pub put_rates-materials-requires-clause-graph : goal.put_rates-materials-requires-clause-graph
put_rates-materials-requires-clause-graph c =
    c.graph-graph.ensures.same ∙ ap (λ (q : Problem). shape_of q)
    (sym c.problem-problem.ensures.same)

pub knees_of-knees-requires-clause-small : goal.knees_of-knees-requires-clause-small
knees_of-knees-requires-clause-small c =
    c.requires.ground.useful.small

pub costs_of-requires-clause-unit : goal.costs_of-requires-clause-unit
costs_of-requires-clause-unit c =
    let p = c.args.site.now in
    let n = node_of c.args.ground.now.node in
    let f = facts_of c.args.ground.now.facts in
    let m = c.args.multipliers.now in
    let y = entry m.ys in
    let e = c.problem-problem.ensures.same in
    let formed : IsWellFormed p = well_formed_from_valid p c.problem-problem.ensures.valid in
    let next : IsNext 128 c.loop-u.u-iterator c.in-Some.u c.next.new.self =
    next_of 128 c.loop-u.u-iterator c.in-Some.u c.next.new.self c.loop-u.invariant.is_set
    c.in-Some.ensures.steps in
    let there = listed_had (length p.units) (stays n) c.args.ground.now.units c.in-Some.u
    c.requires.ground.units
    (c.loop-u.invariant.within c.in-Some.u
    (has_next 128 c.loop-u.u-iterator c.in-Some.u c.next.new.self next)) in
    subst (λ (q : Problem). c.in-Some.u < length q.units) (sym e) there.0

pub used_by-requires : goal.used_by-requires
used_by-requires c =
    let p = c.args.site.now in
    let n = node_of c.args.ground.now.node in
    let next : IsNext 128 c.loop-u.u-iterator c.in-Some.u c.next.new.self =
    next_of 128 c.loop-u.u-iterator c.in-Some.u c.next.new.self c.loop-u.invariant.is_set
    c.in-Some.ensures.steps in
    (listed_had (length p.units) (stays n) c.args.ground.now.units c.in-Some.u
    c.requires.ground.units
    (c.loop-u.invariant.within c.in-Some.u
    (has_next 128 c.loop-u.u-iterator c.in-Some.u c.next.new.self next))).0

pub with_unit-requires-clause-room : goal.with_unit-requires-clause-room
with_unit-requires-clause-room c =
    let few =
    length_below 128 c.args.ground.now.units c.into_iter-u-iterator.ensures.into_iter_gives.1.rising
    c.into_iter-u-iterator.ensures.into_iter_gives.1.below in
    let r = c.loop-u.invariant.room in
    let room = c.requires.room in
    omega arith

pub loop-u-init : goal.loop-u-init
loop-u-init c =
    let p = c.args.site.now in
    let n = node_of c.args.ground.now.node in
    let f = facts_of c.args.ground.now.facts in
    let m = c.args.multipliers.now in
    let e = c.into_iter-u-iterator.ensures.into_iter_gives.0 in
    let s : SFits w128 c.args.from.sum = search rules in
    let l : length c.into_iter-u-iterator.result ≡ length c.args.ground.now.units =
    ap (λ (xs : List ℕ). length xs) e in
    record {
      is_set = subst (IsSet 128) (sym e) c.into_iter-u-iterator.ensures.into_iter_gives.1;
      within =
          subst (λ (xs : List ℕ). IsWithin (has xs) (has c.args.ground.now.units)) (sym e)
          (λ i h. h);
      from_start = omega arith;
      room = omega arith;
      so_far = λ covers pay.
          simp to_z-of_z
          (subst
          (λ (xs : List ℕ). IsChargeSum (net_of p) n f m.d (entry m.ys) covers
          c.args.ground.now.units c.args.from.sum c.args.from.sum c.args.from.at c.args.from.at xs)
          (sym e)
          (charge_sum_begins (net_of p) n f m.d (entry m.ys) covers c.args.ground.now.units
          c.args.from.sum c.args.from.at));
    }

pub returns-in-Err-clause-past : goal.returns-in-Err-clause-past
returns-in-Err-clause-past c =
    let p = c.args.site.now in
    let n = node_of c.args.ground.now.node in
    let f = facts_of c.args.ground.now.facts in
    let m = c.args.multipliers.now in
    let y = entry m.ys in
    let e = c.problem-problem.ensures.same in
    let formed : IsWellFormed p = well_formed_from_valid p c.problem-problem.ensures.valid in
    let next : IsNext 128 c.loop-u.u-iterator c.in-Some.u c.next.new.self =
    next_of 128 c.loop-u.u-iterator c.in-Some.u c.next.new.self c.loop-u.invariant.is_set
    c.in-Some.ensures.steps in
    let there = listed_had (length p.units) (stays n) c.args.ground.now.units c.in-Some.u
    c.requires.ground.units
    (c.loop-u.invariant.within c.in-Some.u
    (has_next 128 c.loop-u.u-iterator c.in-Some.u c.next.new.self next)) in
    let rates : AreRates p c.in-Some.u c.put_rates-materials.result
    c.put_rates-materials.new.rates =
    subst
    (λ (q : Problem). AreRates q c.in-Some.u c.put_rates-materials.result
    c.put_rates-materials.new.rates) e c.put_rates-materials.ensures in
    let s0 : SFits w128 c.args.from.sum = search rules in
    let s1 : SFits w128 c.costs_of.result.size = search rules in
    let s2 : SFits w128 c.costs_of.result.fixed = search rules in
    let worth : SFits w128 c.used_by.result.worth = search rules in
    let rate : SFits w128 c.used_by.result.rate = search rules in
    let s3 : SFits w128 (get_or c.args.paid.now c.in-Some.u (pos 0)) = search rules in
    let s4 : SFits w128 c.sizes_of.result.low = search rules in
    let s5 : SFits w128 c.sizes_of.result.high = search rules in
    let t : Terms =
    record {
      is_in = c.has.result;
      costs =
          record { size = c.costs_of.result.size; fixed = c.costs_of.result.fixed };
      used =
          record { worth = c.used_by.result.worth; rate = c.used_by.result.rate };
      paid =
          get_or c.args.paid.now c.in-Some.u (pos 0);
      sizes =
          record { low = c.sizes_of.result.low; high = c.sizes_of.result.high };
    } in
    let size_is : c.costs_of.result.size ≡ size_cost (net_of p) c.in-Some.u =
    c.costs_of.ensures.size ∙ ap (λ (q : Problem). size_cost (net_of q) c.in-Some.u) e in
    let fixed_is : c.costs_of.result.fixed ≡ (net_of p).fix c.in-Some.u *ℤ trillion =
    c.costs_of.ensures.fixed ∙ ap (λ (q : Problem). (net_of q).fix c.in-Some.u *ℤ trillion) e in
    let k = c.knees_of-knees.result in
    let right = knees_are p formed n f y c.in-Some.u c.put_rates-materials.result
    c.put_rates-materials.new.rates c.rises.ensures rates there.0 there.1 c.args.ground.now.useful
    c.requires.ground.useful k c.rises-in-loop-u.ensures.rising c.knees_of-knees.ensures.set
    c.knees_of-knees.ensures.knees in
    λ covers pay. charge_unit_past (net_of p) n f m.d y covers c.args.ground.now.units
    c.args.from.sum (to_z w128 c.loop-u.sum-bits) c.args.from.at c.loop-u.at c.loop-u.u-iterator
    c.in-Some.u c.next.new.self next (c.loop-u.invariant.so_far covers pay)
    c.in-Err.past.at c.in-Err.ensures.from_start
    (column_past p formed n f y c.in-Some.u c.put_rates-materials.result
    c.put_rates-materials.new.rates c.rises.ensures rates there.0 there.1 m.d covers t c.has.ensures
    size_is fixed_is c.used_by.ensures.worth c.used_by.ensures.rate (pay c.in-Some.u)
    c.sizes_of.ensures.low c.sizes_of.ensures.high (to_z w128 c.loop-u.sum-bits)
    (knees_in k k.set) right (c.in-Err.past.at - c.loop-u.at)
    (simp to_z-of_z at c.in-Err.ensures.past))

pub loop-u-preserved : goal.loop-u-preserved
loop-u-preserved c =
    let p = c.args.site.now in
    let n = node_of c.args.ground.now.node in
    let f = facts_of c.args.ground.now.facts in
    let m = c.args.multipliers.now in
    let y = entry m.ys in
    let e = c.problem-problem.ensures.same in
    let formed : IsWellFormed p = well_formed_from_valid p c.problem-problem.ensures.valid in
    let next : IsNext 128 c.loop-u.u-iterator c.in-Some.u c.next.new.self =
    next_of 128 c.loop-u.u-iterator c.in-Some.u c.next.new.self c.loop-u.invariant.is_set
    c.in-Some.ensures.steps in
    let there = listed_had (length p.units) (stays n) c.args.ground.now.units c.in-Some.u
    c.requires.ground.units
    (c.loop-u.invariant.within c.in-Some.u
    (has_next 128 c.loop-u.u-iterator c.in-Some.u c.next.new.self next)) in
    let rates : AreRates p c.in-Some.u c.put_rates-materials.result
    c.put_rates-materials.new.rates =
    subst
    (λ (q : Problem). AreRates q c.in-Some.u c.put_rates-materials.result
    c.put_rates-materials.new.rates) e c.put_rates-materials.ensures in
    let s0 : SFits w128 c.args.from.sum = search rules in
    let s1 : SFits w128 c.costs_of.result.size = search rules in
    let s2 : SFits w128 c.costs_of.result.fixed = search rules in
    let worth : SFits w128 c.used_by.result.worth = search rules in
    let rate : SFits w128 c.used_by.result.rate = search rules in
    let s3 : SFits w128 (get_or c.args.paid.now c.in-Some.u (pos 0)) = search rules in
    let s4 : SFits w128 c.sizes_of.result.low = search rules in
    let s5 : SFits w128 c.sizes_of.result.high = search rules in
    let t : Terms =
    record {
      is_in = c.has.result;
      costs =
          record { size = c.costs_of.result.size; fixed = c.costs_of.result.fixed };
      used =
          record { worth = c.used_by.result.worth; rate = c.used_by.result.rate };
      paid =
          get_or c.args.paid.now c.in-Some.u (pos 0);
      sizes =
          record { low = c.sizes_of.result.low; high = c.sizes_of.result.high };
    } in
    let size_is : c.costs_of.result.size ≡ size_cost (net_of p) c.in-Some.u =
    c.costs_of.ensures.size ∙ ap (λ (q : Problem). size_cost (net_of q) c.in-Some.u) e in
    let fixed_is : c.costs_of.result.fixed ≡ (net_of p).fix c.in-Some.u *ℤ trillion =
    c.costs_of.ensures.fixed ∙ ap (λ (q : Problem). (net_of q).fix c.in-Some.u *ℤ trillion) e in
    let k = c.knees_of-knees.result in
    let right = knees_are p formed n f y c.in-Some.u c.put_rates-materials.result
    c.put_rates-materials.new.rates c.rises.ensures rates there.0 there.1 c.args.ground.now.useful
    c.requires.ground.useful k c.rises-in-loop-u.ensures.rising c.knees_of-knees.ensures.set
    c.knees_of-knees.ensures.knees in
    let s6 : SFits w128 c.in-Ok.next.sum = search rules in
    let fit = simp to_z-of_z at c.in-Ok.ensures.in_range in
    record {
      is_set = next.set;
      within =
          λ i k. c.loop-u.invariant.within i
          (rest_within 128 c.loop-u.u-iterator c.in-Some.u c.next.new.self next i k);
      from_start = let a = c.loop-u.invariant.from_start in let b = c.in-Ok.ensures.count in
          omega arith;
      room = let a = c.loop-u.invariant.room in let b = c.in-Ok.ensures.small in
          let l : length c.loop-u.u-iterator ≡ 1 + length c.next.new.self =
          ap (λ (xs : List ℕ). length xs) next.is ∙ (omega arith) in omega arith;
      so_far =
          λ covers pay. simp to_z-of_z
          (charge_sum_more (net_of p) n f m.d y covers c.args.ground.now.units c.args.from.sum
          (to_z w128 c.loop-u.sum-bits) c.args.from.at c.loop-u.at c.loop-u.u-iterator c.in-Some.u
          c.next.new.self next (c.loop-u.invariant.so_far covers pay)
          c.in-Ok.next.sum c.in-Ok.next.at
          (column_adds p formed n f y c.in-Some.u c.put_rates-materials.result
          c.put_rates-materials.new.rates c.rises.ensures rates there.0 there.1 m.d covers t
          c.has.ensures size_is fixed_is c.used_by.ensures.worth c.used_by.ensures.rate
          (pay c.in-Some.u) c.sizes_of.ensures.low c.sizes_of.ensures.high
          (to_z w128 c.loop-u.sum-bits) (knees_in k k.set) right
          c.in-Ok.next.sum fit (simp to_z-of_z at c.in-Ok.ensures.value))
          (column_fits p formed n f y c.in-Some.u c.put_rates-materials.result
          c.put_rates-materials.new.rates c.rises.ensures rates there.0 there.1 m.d covers t
          c.has.ensures size_is fixed_is c.used_by.ensures.worth c.used_by.ensures.rate
          (pay c.in-Some.u) c.sizes_of.ensures.low c.sizes_of.ensures.high
          (to_z w128 c.loop-u.sum-bits) (knees_in k k.set) right fit)
          (column_long p formed n f y c.in-Some.u c.put_rates-materials.result
          c.put_rates-materials.new.rates c.rises.ensures rates there.0 there.1 m.d covers t
          c.has.ensures size_is fixed_is c.used_by.ensures.worth c.used_by.ensures.rate
          (pay c.in-Some.u) c.sizes_of.ensures.low c.sizes_of.ensures.high
          (to_z w128 c.loop-u.sum-bits) (knees_in k k.set) right
          c.loop-u.at c.in-Ok.next.at fit (simp to_z-of_z at c.in-Ok.ensures.count)));
    }

pub returns-clause-value : goal.returns-clause-value
returns-clause-value c =
    let p = c.args.site.now in
    let n = node_of c.args.ground.now.node in
    let f = facts_of c.args.ground.now.facts in
    let m = c.args.multipliers.now in
    let s0 : SFits w128 c.args.from.sum = search rules in
    λ covers pay.
    (charge_sum_ends (net_of p) n f m.d (entry m.ys) covers c.args.ground.now.units c.args.from.sum
    (to_z w128 c.loop-u.sum-bits) c.args.from.at c.loop-u.at c.loop-u.u-iterator
    c.in-None.ensures.steps.0 (c.loop-u.invariant.so_far covers pay)).0

pub returns-clause-in_range : goal.returns-clause-in_range
returns-clause-in_range c =
    let p = c.args.site.now in
    let n = node_of c.args.ground.now.node in
    let f = facts_of c.args.ground.now.facts in
    let m = c.args.multipliers.now in
    let s0 : SFits w128 c.args.from.sum = search rules in
    λ covers pay.
    (charge_sum_ends (net_of p) n f m.d (entry m.ys) covers c.args.ground.now.units c.args.from.sum
    (to_z w128 c.loop-u.sum-bits) c.args.from.at c.loop-u.at c.loop-u.u-iterator
    c.in-None.ensures.steps.0 (c.loop-u.invariant.so_far covers pay)).1
