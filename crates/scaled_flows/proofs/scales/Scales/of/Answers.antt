use Rattle.std.proofs.Common.{◌≡◌, ◌∙◌, ◌<◌, ℕ, List, true, false, length, ap, subst, rules}
use Rattle.std.proofs.Common.{SFits}
use Rattle.std.proofs.Common.{get_or, ◌&&◌, pos, ℤ}
use Rattle.std.specs.Prelude.{nat_lt, int_div}
use Rattle.std.specs.Int.{w64, w128}
use Rattle.std.proofs.lemmas.Int.{to_z-of_z}
use Rattle.std.proofs.lemmas.Bool.{lt-ltb}
use Rattle.tree_rules.specs.number_sets.Sets.{has, listed}
use Rattle.tree_rules.proofs.number_sets.Cited.{has-listed}
use Rattle.tree_rules.specs.pns_rules.Shape.{Shape, shape_of}
use Rattle.tree_rules.specs.pns_rules.Structure.{mats}
use Rattle.tree_rules.specs.pns_rules.Nodes as rules_of
use Rattle.flow_program.specs.pgraph.Tables.{shape}
use Rattle.tree_rules.specs.flow_rules.Net.{net_of}
use Rattle.tree_rules.specs.flow_rules.Relaxed.{stays, row_low, row_high, unit_low, unit_cost}
use Rattle.flow_program.specs.NodeSets.{AreNeeded}
use Rattle.flow_program.proofs.Cited.{listed_had}
use Rattle.scaled_flows.specs.Found.{DividesRow}
use Rattle.scaled_flows.proofs.FoundLemmas.{through}
use Rattle.scaled_flows.proofs.DivisorLemmas.{divisors_from}
use Rattle.scaled_flows.proofs.scales.Scales.of.Goals as goal

pub rate_divisors-requires : goal.rate_divisors-requires
rate_divisors-requires c = record {
  needed =
      subst
      (λ (g : Shape). AreNeeded g
      (record { inside = has c.below-inside.result; outside = has c.empty-outside.result })
      c.sets_of-sets.result.needed) c.requires c.sets_of-sets.ensures.needed_are;
}

pub with_rows-requires-clause-known : goal.with_rows-requires-clause-known
with_rows-requires-clause-known c =
    λ j h.
    (listed_had (length c.args.problem.now.materials)
    (mats (shape_of c.args.problem.now)
    (stays
    (record { inside = has c.below-inside.result; outside = has c.empty-outside.result })))
    c.sets_of-sets.result.rows j
    (c.sets_of-sets.ensures.rows_are
    ∙ ap
    (λ (g : Shape). listed g.materials
    (mats g
    (stays
    (record { inside = has c.below-inside.result; outside = has c.empty-outside.result }))))
    c.requires) h).0

pub with_rows-requires-clause-needed : goal.with_rows-requires-clause-needed
with_rows-requires-clause-needed c =
    subst
    (λ (g : Shape). AreNeeded g
    (record { inside = has c.below-inside.result; outside = has c.empty-outside.result })
    c.sets_of-sets.result.needed) c.requires c.sets_of-sets.ensures.needed_are

pub returns : goal.returns
returns c =
    let p = c.args.problem.now in
    let taken : rules_of.Node =
    record { inside = has c.below-inside.result; outside = has c.empty-outside.result } in
    let free : rules_of.Node =
    record { inside = has c.empty-outside.result; outside = has c.empty-outside.result } in
    let same : (shape c.args.graph.now).units ≡ length p.units =
    ap (λ (g : Shape). g.units) c.requires in
    let none : (i : ℕ) → has c.empty-outside.result i ≡ false =
    λ i. ap (λ (xs : List ℕ). has xs i) c.empty-outside.ensures in
    let all : (i : ℕ) → i < length p.units → has c.below-inside.result i ≡ true
    = λ i l. c.below-inside.ensures i ∙ ap (λ (m : ℕ). nat_lt i m) (c.unit_count.ensures ∙ same)
    ∙ lt-ltb i (length p.units) l in
    let rows_are : c.sets_of-sets.result.rows
    ≡ listed (length p.materials) (mats (shape_of p) (stays taken))
    = c.sets_of-sets.ensures.rows_are
    ∙ ap (λ (g : Shape). listed g.materials (mats g (stays taken))) c.requires in
    let is_row : (j : ℕ) → j < length p.materials → mats (shape_of p) (stays taken) j ≡ true
    → has c.sets_of-sets.result.rows j ≡ true
    = λ j l h. ap (λ (xs : List ℕ). has xs j) rows_are
    ∙ has-listed (length p.materials) (mats (shape_of p) (stays taken)) j
    ∙ (λ k. lt-ltb j (length p.materials) l k && h k) in
    let s0 : SFits w64 c.narrowed-sizes.result = search rules in
    let w0 : SFits w128 c.with_rows.result = search rules in
    let us : SFits w128 c.unit_divisors-units.result.sizes = search rules in
    let uc : SFits w128 c.unit_divisors-units.result.costs = search rules in
    let cd : SFits w128 c.cost_divisor-costs.result = search rules in
    let found = c.in_ok-rates.ensures in
    let of_units = c.unit_divisors-units.ensures in
    let nd = simp to_z-of_z at c.narrowed-sizes.ensures.divides in
    let wc = simp to_z-of_z at c.with_rows.ensures.common in
    let cc' = simp to_z-of_z at c.cost_divisor-costs.ensures.divides in
    let sizes_all =
    through c.narrowed-sizes.result c.with_rows.result c.unit_divisors-units.result.sizes nd
    wc in
    simp to_z-of_z
    (divisors_from (net_of p)
    (record {
      rates = c.in_ok-rates.rates.items;
      sizes = c.narrowed-sizes.result;
      costs =
          c.cost_divisor-costs.result;
    }) taken free all none none
    found.count found.positive c.narrowed-sizes.ensures.positive
    c.cost_divisor-costs.ensures.positive
    found.divides (λ j l. (found.low j l, found.high j l))
    (λ j l h. let e =
    subst (λ (xs : List ℤ). DividesRow (net_of p) taken xs c.with_rows.result j)
    c.deref.ensures.value (c.with_rows.ensures.rows j (is_row j l h)) in (
      through c.narrowed-sizes.result c.with_rows.result
          (int_div (row_low (net_of p) taken j) (get_or c.in_ok-rates.rates.items j (pos 0))) nd
          e.0,
      through c.narrowed-sizes.result c.with_rows.result
          (int_div (row_high (net_of p) taken j) (get_or c.in_ok-rates.rates.items j (pos 0))) nd
          e.1,
    ))
    (λ i l. (
      through c.narrowed-sizes.result c.unit_divisors-units.result.sizes
          (unit_low (net_of p) taken i) sizes_all (of_units.low i l),
      through c.narrowed-sizes.result c.unit_divisors-units.result.sizes ((net_of p).most i)
          sizes_all (of_units.high i l),
    ))
    (λ i l. (
      through c.cost_divisor-costs.result c.unit_divisors-units.result.costs
          (unit_cost (net_of p) taken i) cc' (of_units.taken_cost i l),
      through c.cost_divisor-costs.result c.unit_divisors-units.result.costs
          (unit_cost (net_of p) free i) cc' (of_units.free_cost i l),
    )))
