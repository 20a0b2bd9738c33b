use Rattle.std.proofs.Common.{◌≡◌, ◌∙◌, ◌<◌, ◌||◌, ◌&&◌, ℕ, length, refl, sym, ap, subst, SFits}
use Rattle.std.proofs.Common.{rules, get_or, true, arith, pos, ℤ, ◌*ℤ◌, ◌≤ℤ◌}
use Rattle.std.specs.Prelude.{int_div}
use Rattle.std.specs.Int.{w64, w128}
use Rattle.std.proofs.lemmas.Int.{to_z-of_z}
use Rattle.std.specs.Ordering.{int_eq}
use Rattle.std.specs.Prelude.{not}
use Rattle.tree_rules.specs.integer_laws.Total.{total}
use Rattle.tree_rules.specs.number_sets.Sets.{has}
use Rattle.tree_rules.specs.problem_rules.Problem.{rate_of}
use Rattle.tree_rules.specs.pns_rules.Shape.{Shape, shape_of}
use Rattle.tree_rules.specs.pns_rules.Structure.{mats}
use Rattle.flow_program.specs.pgraph.View.{node_of}
use Rattle.tree_rules.specs.flow_rules.Net.{net_of}
use Rattle.tree_rules.specs.flow_rules.Relaxed.{stays, row_low, row_high}
use Rattle.tree_rules.specs.flow_rules.FeasibleSteps.{units_at}
use Rattle.flow_program.specs.Entry.{entry}
use Rattle.flow_program.proofs.Cited.{next_of, head_had, listed_had, range_formed, units_are}
use Rattle.scaled_flows.specs.Divisors.{rate_divisor}
use Rattle.scaled_flows.specs.Scaled.{row_floor, row_ceiling, scaled_balance}
use Rattle.scaled_flows.specs.Settled.{IsSettled}
use Rattle.scaled_flows.proofs.SumLemmas.{known_more}
use Rattle.scaled_flows.proofs.SettledLemmas.{product_positive}
use Rattle.scaled_flows.proofs.ProgramLemmas.{settled_same, divides_same, balance_at_units}
use Rattle.scaled_flows.proofs.rows.are_rows_settled.Goals as goal

pub rate-divisor-requires : goal.rate-divisor-requires
rate-divisor-requires c =
    let there =
    listed_had (length c.args.problem.now.materials)
    (mats (shape_of c.args.problem.now) (stays (node_of c.args.node.now))) c.args.sets.now.rows
    c.in-Some.j c.requires.sets.rows_are
    (c.loop-j.invariant.so_far.within c.in-Some.j
    (head_had c.loop-j.j-iterator c.in-Some.j c.next.new.self c.in-Some.ensures.steps)) in
    let l = there.0 in
    let n : length c.args.scales.now.rates ≡ length c.args.problem.now.materials =
    c.requires.scales.count in
    omega arith

pub row_range-range-requires-clause-known : goal.row_range-range-requires-clause-known
row_range-range-requires-clause-known c =
    (listed_had (length c.args.problem.now.materials)
    (mats (shape_of c.args.problem.now) (stays (node_of c.args.node.now))) c.args.sets.now.rows
    c.in-Some.j c.requires.sets.rows_are
    (c.loop-j.invariant.so_far.within c.in-Some.j
    (head_had c.loop-j.j-iterator c.in-Some.j c.next.new.self c.in-Some.ensures.steps))).0

pub row_divisor-requires-clause-rates : goal.row_divisor-requires-clause-rates
row_divisor-requires-clause-rates c =
    let there =
    listed_had (length c.args.problem.now.materials)
    (mats (shape_of c.args.problem.now) (stays (node_of c.args.node.now))) c.args.sets.now.rows
    c.in-Some.j c.requires.sets.rows_are
    (c.loop-j.invariant.so_far.within c.in-Some.j
    (head_had c.loop-j.j-iterator c.in-Some.j c.next.new.self c.in-Some.ensures.steps)) in
    let g : SFits w64 c.rate-divisor.result = search rules in
    simp to_z-of_z
    (subst (λ (z : ℤ). pos 1 ≤ℤ z) (sym c.rate-divisor.ensures)
    (c.requires.scales.rates_positive c.in-Some.j there.0))

pub scaled_range-range-requires-clause-positive : goal.scaled_range-range-requires-clause-positive
scaled_range-range-requires-clause-positive c =
    let there =
    listed_had (length c.args.problem.now.materials)
    (mats (shape_of c.args.problem.now) (stays (node_of c.args.node.now))) c.args.sets.now.rows
    c.in-Some.j c.requires.sets.rows_are
    (c.loop-j.invariant.so_far.within c.in-Some.j
    (head_had c.loop-j.j-iterator c.in-Some.j c.next.new.self c.in-Some.ensures.steps)) in
    let g : SFits w64 c.rate-divisor.result = search rules in
    let z : SFits w64 c.sizes.result = search rules in
    let v : SFits w128 c.row_divisor.result = search rules in
    let e = simp to_z-of_z at c.row_divisor.ensures in
    simp to_z-of_z
    (subst (λ (z : ℤ). pos 1 ≤ℤ z)
    (sym (e ∙ (λ k. c.rate-divisor.ensures k *ℤ c.sizes.ensures k)))
    (product_positive (rate_divisor c.args.scales.now c.in-Some.j) c.args.scales.now.sizes
    (c.requires.scales.rates_positive c.in-Some.j there.0) c.requires.scales.sizes_positive))

pub scaled_range-range-requires-clause-ordered : goal.scaled_range-range-requires-clause-ordered
scaled_range-range-requires-clause-ordered c =
    let there =
    listed_had (length c.args.problem.now.materials)
    (mats (shape_of c.args.problem.now) (stays (node_of c.args.node.now))) c.args.sets.now.rows
    c.in-Some.j c.requires.sets.rows_are
    (c.loop-j.invariant.so_far.within c.in-Some.j
    (head_had c.loop-j.j-iterator c.in-Some.j c.next.new.self c.in-Some.ensures.steps)) in
    let lo : SFits w128 c.row_range-range.result.low = search rules in
    let hi : SFits w128 c.row_range-range.result.high = search rules in
    let formed =
    range_formed c.args.problem.now c.is_valid.ensures.well_formed (node_of c.args.node.now)
    c.in-Some.j there.0 in
    rw (c.row_range-range.ensures.low, c.row_range-range.ensures.high) formed.2

pub scaled_range-range-requires-clause-low_divided :
    goal.scaled_range-range-requires-clause-low_divided
scaled_range-range-requires-clause-low_divided c =
    let there =
    listed_had (length c.args.problem.now.materials)
    (mats (shape_of c.args.problem.now) (stays (node_of c.args.node.now))) c.args.sets.now.rows
    c.in-Some.j c.requires.sets.rows_are
    (c.loop-j.invariant.so_far.within c.in-Some.j
    (head_had c.loop-j.j-iterator c.in-Some.j c.next.new.self c.in-Some.ensures.steps)) in
    let lo : SFits w128 c.row_range-range.result.low = search rules in
    let g : SFits w64 c.rate-divisor.result = search rules in
    let z : SFits w64 c.sizes.result = search rules in
    let v : SFits w128 c.row_divisor.result = search rules in
    let e = simp to_z-of_z at c.row_divisor.ensures in
    let l = c.row_range-range.ensures.low in
    simp to_z-of_z
    (divides_same c.row_divisor.result
    (rate_divisor c.args.scales.now c.in-Some.j *ℤ c.args.scales.now.sizes)
    c.row_range-range.result.low
    (row_low (net_of c.args.problem.now) (node_of c.args.node.now) c.in-Some.j)
    (e ∙ (λ k. c.rate-divisor.ensures k *ℤ c.sizes.ensures k)) l
    (c.requires.scales.row_low (node_of c.args.node.now) c.in-Some.j there.0 there.1))

pub scaled_range-range-requires-clause-high_divided :
    goal.scaled_range-range-requires-clause-high_divided
scaled_range-range-requires-clause-high_divided c =
    let there =
    listed_had (length c.args.problem.now.materials)
    (mats (shape_of c.args.problem.now) (stays (node_of c.args.node.now))) c.args.sets.now.rows
    c.in-Some.j c.requires.sets.rows_are
    (c.loop-j.invariant.so_far.within c.in-Some.j
    (head_had c.loop-j.j-iterator c.in-Some.j c.next.new.self c.in-Some.ensures.steps)) in
    let hi : SFits w128 c.row_range-range.result.high = search rules in
    let g : SFits w64 c.rate-divisor.result = search rules in
    let z : SFits w64 c.sizes.result = search rules in
    let v : SFits w128 c.row_divisor.result = search rules in
    let e = simp to_z-of_z at c.row_divisor.ensures in
    let l = c.row_range-range.ensures.high in
    simp to_z-of_z
    (divides_same c.row_divisor.result
    (rate_divisor c.args.scales.now c.in-Some.j *ℤ c.args.scales.now.sizes)
    c.row_range-range.result.high
    (row_high (net_of c.args.problem.now) (node_of c.args.node.now) c.in-Some.j)
    (e ∙ (λ k. c.rate-divisor.ensures k *ℤ c.sizes.ensures k)) l
    (c.requires.scales.row_high (node_of c.args.node.now) c.in-Some.j there.0 there.1))

pub units_with-units-requires : goal.units_with-units-requires
units_with-units-requires c =
    subst (λ (g : Shape). c.in-Some.j < g.materials) (sym c.requires.graph)
    (listed_had (length c.args.problem.now.materials)
    (mats (shape_of c.args.problem.now) (stays (node_of c.args.node.now))) c.args.sets.now.rows
    c.in-Some.j c.requires.sets.rows_are
    (c.loop-j.invariant.so_far.within c.in-Some.j
    (head_had c.loop-j.j-iterator c.in-Some.j c.next.new.self c.in-Some.ensures.steps))).0

pub balance_of-requires-clause-known : goal.balance_of-requires-clause-known
balance_of-requires-clause-known c =
    let known : (u : ℕ) → has c.args.sets.now.units u ≡ true → u < length c.args.problem.now.units
    = λ u h.
    (listed_had (length c.args.problem.now.units) (stays (node_of c.args.node.now))
    c.args.sets.now.units u c.requires.sets.units_are h).0 in
    let us : c.units_with-units.result
    ≡ units_at (net_of c.args.problem.now) (has c.args.sets.now.units) c.in-Some.j
    = units_are c.args.problem.now c.is_valid.ensures.well_formed c.args.sets.now.units
    c.units_with-units.result c.in-Some.j c.rises.ensures known
    (λ u. c.units_with-units.ensures u
    ∙ ap
    (λ (g : Shape). (g.makes u c.in-Some.j || g.uses u c.in-Some.j) && has c.args.sets.now.units
    u) c.requires.graph) in
    λ u h.
    (listed_had (length c.args.problem.now.units)
    (λ i. has c.args.sets.now.units i && not
    (int_eq (rate_of c.args.problem.now c.in-Some.j i) (pos 0))) c.units_with-units.result u us
    h).0

pub balance_of-requires-clause-positive : goal.balance_of-requires-clause-positive
balance_of-requires-clause-positive c =
    let there =
    listed_had (length c.args.problem.now.materials)
    (mats (shape_of c.args.problem.now) (stays (node_of c.args.node.now))) c.args.sets.now.rows
    c.in-Some.j c.requires.sets.rows_are
    (c.loop-j.invariant.so_far.within c.in-Some.j
    (head_had c.loop-j.j-iterator c.in-Some.j c.next.new.self c.in-Some.ensures.steps)) in
    let g : SFits w64 c.rate-divisor.result = search rules in
    simp to_z-of_z
    (subst (λ (z : ℤ). pos 1 ≤ℤ z) (sym c.rate-divisor.ensures)
    (c.requires.scales.rates_positive c.in-Some.j there.0))

pub bounds-y_at-j : goal.bounds-y_at-j
bounds-y_at-j c =
    let b =
    (next_of 256 c.loop-j.j-iterator c.in-Some.j c.next.new.self c.loop-j.invariant.is_set
    c.in-Some.ensures.steps).below in
    let l = c.requires.all_ys in
    omega arith

pub loop-j-preserved : goal.loop-j-preserved
loop-j-preserved c = record {
  is_set =
      (next_of 256 c.loop-j.j-iterator c.in-Some.j c.next.new.self c.loop-j.invariant.is_set
      c.in-Some.ensures.steps).set;
  so_far = let d = c.ranges.d in
      let p = c.args.problem.now in
      let n = node_of c.args.node.now in
      let s = c.args.scales.now in
      let j = c.in-Some.j in
      let there =
      listed_had (length c.args.problem.now.materials)
      (mats (shape_of c.args.problem.now) (stays (node_of c.args.node.now)))
      c.args.sets.now.rows c.in-Some.j c.requires.sets.rows_are
      (c.loop-j.invariant.so_far.within c.in-Some.j
      (head_had c.loop-j.j-iterator c.in-Some.j c.next.new.self c.in-Some.ensures.steps)) in
      let known : (u : ℕ) → has c.args.sets.now.units u ≡ true → u < length c.args.problem.now.units
      = λ u h.
      (listed_had (length c.args.problem.now.units) (stays (node_of c.args.node.now))
      c.args.sets.now.units u c.requires.sets.units_are h).0 in
      let us : c.units_with-units.result
      ≡ units_at (net_of c.args.problem.now) (has c.args.sets.now.units) c.in-Some.j
      = units_are c.args.problem.now c.is_valid.ensures.well_formed c.args.sets.now.units
      c.units_with-units.result c.in-Some.j c.rises.ensures known
      (λ u. c.units_with-units.ensures u
      ∙ ap
      (λ (g : Shape). (g.makes u c.in-Some.j || g.uses u c.in-Some.j) && has
      c.args.sets.now.units u) c.requires.graph) in
      let lo : SFits w128 c.row_range-range.result.low = search rules in
      let hi : SFits w128 c.row_range-range.result.high = search rules in
      let g : SFits w64 c.rate-divisor.result = search rules in
      let z : SFits w64 c.sizes.result = search rules in
      let v : SFits w128 c.row_divisor.result = search rules in
      let lo' : SFits w128 c.scaled_range-range.result.low = search rules in
      let hi' : SFits w128 c.scaled_range-range.result.high = search rules in
      let b : SFits w128 c.in-Some-balance_of.balance = search rules in
      let y : SFits w128 (get_or c.args.y_at.now c.in-Some.j (pos 0)) = search rules in
      let e = simp to_z-of_z at c.row_divisor.ensures in
      let divisor = e ∙ (λ k. c.rate-divisor.ensures k *ℤ c.sizes.ensures k) in
      let l = simp to_z-of_z at c.scaled_range-range.ensures.low in
      let h = simp to_z-of_z at c.scaled_range-range.ensures.high in
      let l' = c.row_range-range.ensures.low in
      let h' = c.row_range-range.ensures.high in
      let sum = simp to_z-of_z at c.in-Some-balance_of.ensures in
      let f = c.if-not-is_settled.false in
      let t : c.is_settled.result ≡ true = search rules in
      let k = simp to_z-of_z at c.is_settled.ensures in
      simp to_z-of_z
      (known_more 256
      (λ j. IsSettled (row_floor (net_of p) s n j) (row_ceiling (net_of p) s n j) c.args.d
      (scaled_balance (net_of p) s n (entry c.args.size_at.now) j) (entry c.args.y_at.now j))
      c.args.sets.now.rows c.loop-j.j-iterator j c.next.new.self
      (next_of 256 c.loop-j.j-iterator c.in-Some.j c.next.new.self c.loop-j.invariant.is_set
      c.in-Some.ensures.steps)
      (settled_same c.scaled_range-range.result.low (row_floor (net_of p) s n j)
      c.scaled_range-range.result.high (row_ceiling (net_of p) s n j) c.args.d
      c.in-Some-balance_of.balance (scaled_balance (net_of p) s n (entry c.args.size_at.now) j)
      (get_or c.args.y_at.now c.in-Some.j (pos 0)) (entry c.args.y_at.now j)
      (l ∙ (λ i. int_div (l' i) (divisor i))) (h ∙ (λ i. int_div (h' i) (divisor i)))
      (sum
      ∙ (λ i. total
      (λ i'. int_div (rate_of p j i') (c.rate-divisor.ensures i) *ℤ entry c.args.size_at.now i')
      (us i))
      ∙ balance_at_units (net_of p) s c.requires.scales n c.args.sets.now.units
      c.requires.sets.units_are (entry c.args.size_at.now) j there.0)
      refl (k.0 t))
      (simp to_z-of_z at c.loop-j.invariant.so_far));
}
