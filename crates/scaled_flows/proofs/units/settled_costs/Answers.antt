use Rattle.std.proofs.Common.{◌≡◌, ◌∙◌, length, refl, sym, ap, subst, SFits, rules, get_or, to_z}
use Rattle.std.proofs.Common.{arith, pos, ℤ, ◌+ℤ◌, ◌*ℤ◌}
use Rattle.std.specs.Prelude.{int_div}
use Rattle.std.specs.Int.{w64, w128}
use Rattle.std.proofs.lemmas.Int.{to_z-of_z}
use Rattle.tree_rules.specs.integer_laws.Range.{InRange}
use Rattle.flow_program.specs.pgraph.View.{node_of}
use Rattle.tree_rules.specs.flow_rules.Net.{net_of}
use Rattle.tree_rules.specs.flow_rules.Relaxed.{stays, unit_low}
use Rattle.flow_program.specs.Entry.{entry}
use Rattle.flow_program.proofs.Cited.{next_of, head_had, listed_had}
use Rattle.scaled_flows.specs.Scaled.{size_floor, size_ceiling, scaled_cost, price}
use Rattle.scaled_flows.specs.Settled.{IsSettled}
use Rattle.scaled_flows.proofs.SumLemmas.{known_more, sum_more}
use Rattle.scaled_flows.proofs.ProgramLemmas.{settled_same, divides_same, has_divisors, price_is}
use Rattle.scaled_flows.proofs.units.settled_costs.Goals as goal

pub put_rates-materials-requires-clause-unit : goal.put_rates-materials-requires-clause-unit
put_rates-materials-requires-clause-unit c =
    (listed_had (length c.args.problem.now.units) (stays (node_of c.args.node.now)) c.args.set
    c.in-Some.u c.requires.units
    (c.loop-u.invariant.so_far.sums.within c.in-Some.u
    (head_had c.loop-u.u-iterator c.in-Some.u c.next.new.self c.in-Some.ensures.steps))).0

pub unit_numbers-requires-clause-unit : goal.unit_numbers-requires-clause-unit
unit_numbers-requires-clause-unit c =
    (listed_had (length c.args.problem.now.units) (stays (node_of c.args.node.now)) c.args.set
    c.in-Some.u c.requires.units
    (c.loop-u.invariant.so_far.sums.within c.in-Some.u
    (head_had c.loop-u.u-iterator c.in-Some.u c.next.new.self c.in-Some.ensures.steps))).0

pub scaled_unit-unit-requires-clause-low_divided : goal.scaled_unit-unit-requires-clause-low_divided
scaled_unit-unit-requires-clause-low_divided c =
    let there =
    listed_had (length c.args.problem.now.units) (stays (node_of c.args.node.now)) c.args.set
    c.in-Some.u c.requires.units
    (c.loop-u.invariant.so_far.sums.within c.in-Some.u
    (head_had c.loop-u.u-iterator c.in-Some.u c.next.new.self c.in-Some.ensures.steps)) in
    let z : SFits w64 c.sizes-sizes.result = search rules in
    let lo : SFits w128 c.unit_numbers.result.low = search rules in
    simp to_z-of_z
    (divides_same c.sizes-sizes.result c.args.scales.now.sizes c.unit_numbers.result.low
    (unit_low (net_of c.args.problem.now) (node_of c.args.node.now) c.in-Some.u)
    c.sizes-sizes.ensures c.unit_numbers.ensures.low
    (c.requires.scales.size_low (node_of c.args.node.now) c.in-Some.u there.0))

pub scaled_unit-unit-requires-clause-high_divided :
    goal.scaled_unit-unit-requires-clause-high_divided
scaled_unit-unit-requires-clause-high_divided c =
    let there =
    listed_had (length c.args.problem.now.units) (stays (node_of c.args.node.now)) c.args.set
    c.in-Some.u c.requires.units
    (c.loop-u.invariant.so_far.sums.within c.in-Some.u
    (head_had c.loop-u.u-iterator c.in-Some.u c.next.new.self c.in-Some.ensures.steps)) in
    let z : SFits w64 c.sizes-sizes.result = search rules in
    let hi : SFits w128 c.unit_numbers.result.high = search rules in
    simp to_z-of_z
    (divides_same c.sizes-sizes.result c.args.scales.now.sizes c.unit_numbers.result.high
    ((net_of c.args.problem.now).most c.in-Some.u) c.sizes-sizes.ensures
    c.unit_numbers.ensures.high
    (c.requires.scales.size_high c.in-Some.u there.0))

pub bounds-size_at-u : goal.bounds-size_at-u
bounds-size_at-u c =
    let b =
    (next_of 128 c.loop-u.u-iterator c.in-Some.u c.next.new.self c.loop-u.invariant.is_set
    c.in-Some.ensures.steps).below in
    let l = c.requires.all_sizes in
    omega arith

pub settled_cost-requires-clause-divisors : goal.settled_cost-requires-clause-divisors
settled_cost-requires-clause-divisors c =
    has_divisors c.args.problem.now c.args.scales.now c.requires.scales (node_of c.args.node.now)
    c.in-Some.u c.put_rates-materials.result c.put_rates-materials.new.rates
    c.put_rates-materials.ensures

pub loop-u-preserved : goal.loop-u-preserved
loop-u-preserved c = record {
  is_set =
      (next_of 128 c.loop-u.u-iterator c.in-Some.u c.next.new.self c.loop-u.invariant.is_set
      c.in-Some.ensures.steps).set;
  so_far = let d = c.ranges.d in
      let scale = c.ranges.scale in
      let p = c.args.problem.now in
      let n = node_of c.args.node.now in
      let s = c.args.scales.now in
      let u = c.in-Some.u in
      let there =
      listed_had (length c.args.problem.now.units) (stays (node_of c.args.node.now)) c.args.set
      c.in-Some.u c.requires.units
      (c.loop-u.invariant.so_far.sums.within c.in-Some.u
      (head_had c.loop-u.u-iterator c.in-Some.u c.next.new.self c.in-Some.ensures.steps)) in
      let z : SFits w64 c.sizes-sizes.result = search rules in
      let k : SFits w128 c.costs-costs.result = search rules in
      let lo : SFits w128 c.unit_numbers.result.low = search rules in
      let hi : SFits w128 c.unit_numbers.result.high = search rules in
      let co : SFits w128 c.unit_numbers.result.cost = search rules in
      let lo' : SFits w128 c.scaled_unit-unit.result.low = search rules in
      let hi' : SFits w128 c.scaled_unit-unit.result.high = search rules in
      let co' : SFits w128 c.scaled_unit-unit.result.cost = search rules in
      let sz : SFits w128 (get_or c.args.size_at.now c.in-Some.u (pos 0)) = search rules in
      let m : SFits w128 c.in_ok-cost.cost = search rules in
      let t : SFits w128 c.in_ok-sum.sum = search rules in
      let l = simp to_z-of_z at c.scaled_unit-unit.ensures.low in
      let h = simp to_z-of_z at c.scaled_unit-unit.ensures.high in
      let g = simp to_z-of_z at c.scaled_unit-unit.ensures.cost in
      let cost : c.scaled_unit-unit.result.cost ≡ scaled_cost (net_of p) s n u =
      g ∙ (λ i. int_div (c.unit_numbers.ensures.cost i) (c.costs-costs.ensures i)) in
      let settled = simp to_z-of_z at c.in_ok-cost.ensures.settled in
      let more = simp to_z-of_z at c.in_ok-cost.ensures.cost in
      let sum = simp to_z-of_z at c.in_ok-sum.ensures in
      let so_far = simp to_z-of_z at c.loop-u.invariant.so_far in
      let next =
      next_of 128 c.loop-u.u-iterator c.in-Some.u c.next.new.self c.loop-u.invariant.is_set
      c.in-Some.ensures.steps in
      simp to_z-of_z (record {
        sums =
            sum_more 128 (λ i. scaled_cost (net_of p) s n i *ℤ entry c.args.size_at.now i)
            c.args.set (to_z w128 c.loop-u.sum-bits) c.loop-u.u-iterator u c.next.new.self next
            c.in_ok-sum.sum
            (sum.1
            ∙ ap (λ (x : ℤ). to_z w128 c.loop-u.sum-bits +ℤ x)
            (more ∙ ap (λ (x : ℤ). x *ℤ entry c.args.size_at.now u) cost)) so_far.sums;
        knows =
            known_more 128
            (λ i. IsSettled (size_floor (net_of p) s n i) (size_ceiling (net_of p) s i) c.args.d
            (entry c.args.size_at.now i)
            (price (net_of p) s n c.args.scale (entry c.args.y_at.now) i)) c.args.set
            c.loop-u.u-iterator u c.next.new.self next
            (settled_same c.scaled_unit-unit.result.low (size_floor (net_of p) s n u)
            c.scaled_unit-unit.result.high (size_ceiling (net_of p) s u) c.args.d
            (get_or c.args.size_at.now u (pos 0)) (entry c.args.size_at.now u) _
            (price (net_of p) s n c.args.scale (entry c.args.y_at.now) u)
            (l ∙ (λ i. int_div (c.unit_numbers.ensures.low i) (c.sizes-sizes.ensures i)))
            (h ∙ (λ i. int_div (c.unit_numbers.ensures.high i) (c.sizes-sizes.ensures i))) refl
            (price_is p s c.requires.scales n c.is_valid.ensures.well_formed (entry c.args.y_at.now)
            u c.put_rates-materials.result c.put_rates-materials.new.rates c.rises.ensures
            c.put_rates-materials.ensures there.0 there.1 c.args.scale
            c.scaled_unit-unit.result.cost cost)
            settled) so_far.knows;
        in_range = subst InRange (sym sum.1) sum.0;
      });
}
