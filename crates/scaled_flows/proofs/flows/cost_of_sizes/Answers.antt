use Rattle.std.proofs.Common.{◌≡◌, ◌∙◌, ◌<◌, ℕ, List, true, length, sym, ap, subst, rules, SFits}
use Rattle.std.proofs.Common.{arith, pos, ◌*ℤ◌, ◌≤ℤ◌}
use Rattle.std.specs.Int.{w128}
use Rattle.std.proofs.lemmas.Int.{to_z-of_z, ints}
use Rattle.tree_rules.specs.integer_laws.Total.{total}
use Rattle.tree_rules.specs.number_sets.Sets.{has, listed}
use Rattle.tree_rules.specs.pns_rules.Shape.{Shape}
use Rattle.tree_rules.specs.pns_rules.Structure.{mats}
use Rattle.flow_program.specs.pgraph.View.{node_of}
use Rattle.tree_rules.specs.flow_rules.Net.{net_of, trillion}
use Rattle.tree_rules.specs.flow_rules.Relaxed.{stays, units, rows, fixed_cost}
use Rattle.flow_program.specs.Entry.{entry}
use Rattle.flow_program.proofs.Cited.{set_listed}
use Rattle.flow_program.specs.exact_numbers.Number.{numerator, denominator}
use Rattle.scaled_flows.proofs.ProgramLemmas.{some_weaker, both_some, reached_from}
use Rattle.scaled_flows.proofs.flows.cost_of_sizes.Goals as goal

pub returns : goal.returns
returns c =
    let p = c.args.problem.now in
    let n = node_of c.args.node in
    let s = c.args.scales.now in
    let d : SFits w128 c.args.d = search rules in
    let us : c.sets_of-sets.result.units ≡ units (net_of p) n =
    c.sets_of-sets.ensures.units_are
    ∙ ap (λ (g : Shape). listed g.units (stays n)) c.requires.graph in
    let rs : c.sets_of-sets.result.rows ≡ rows (net_of p) n =
    c.sets_of-sets.ensures.rows_are
    ∙ ap (λ (g : Shape). listed g.materials (mats g (stays n))) c.requires.graph in
    let known : (u : ℕ) → has c.args.node.inside u ≡ true → u < length p.units =
    subst (λ (g : Shape). (u : ℕ) → has c.args.node.inside u ≡ true → u < g.units)
    c.requires.graph c.requires.known in
    let fx : SFits w128 c.fixed_costs-fixed.result = search rules in
    let wo : SFits w128 c.in_ok-worth_of.field-0 = search rules in
    let co : SFits w128 c.in_ok-costs.costs = search rules in
    let fixed : c.fixed_costs-fixed.result ≡ fixed_cost (net_of p) n
    = c.fixed_costs-fixed.ensures.value
    ∙ ap (λ (xs : List ℕ). trillion *ℤ total (net_of p).fix xs)
    (sym (set_listed (length p.units) c.args.node.inside c.rises.ensures known)) in
    let t : c.are_rows_settled.result ≡ true = search rules in
    let row_settled = simp to_z-of_z at (c.are_rows_settled.ensures t) in
    let unit_settled = simp to_z-of_z at c.in_ok-costs.ensures.settled in
    let dp = simp to_z-of_z at c.if-d-lt1.false in
    let d1 : pos 1 ≤ℤ c.args.d = omega (arith, ints) in
    some_weaker c.of_sum.result _ _
    (λ v k. reached_from p s c.requires.scales n c.sets_of-sets.result.units
    c.sets_of-sets.result.rows us rs (entry c.by_unit-size_at.result) c.args.d (pos 0) _ d1
    row_settled unit_settled
    c.fixed_costs-fixed.result c.in_ok-worth_of.field-0 c.in_ok-costs.costs fixed
    c.in_ok-worth_of.ensures.value c.in_ok-costs.ensures.cost (numerator v) (denominator v) k.0
    k.1)
    (both_some c.of_sum.result _ _ (simp to_z-of_z at c.of_sum.ensures.numerator)
    (simp to_z-of_z at c.of_sum.ensures.denominator))
