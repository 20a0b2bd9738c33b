use Rattle.std.specs.Int.{w128}
use Rattle.std.proofs.lemmas.Int.{to_z-of_z}
use Rattle.std.proofs.Common.{SFits, rules, ◌∙◌, ap, List, ℕ}
use Rattle.structure_list.specs.number_sets.Sets.{with_number}
use Rattle.structure_list.specs.flow_rules.Net.{net_of, trillion}
use Rattle.charges.proofs.UnitLemmas.{alone_cost, alone_fixed}
use Rattle.charges.proofs.unit.costs_of.Goals as goal

pub returns-clause-size : goal.returns-clause-size
returns-clause-size c =
    let s : SFits w128 c.unit_numbers.result.cost = search rules in
    simp to_z-of_z
    (c.unit_numbers.ensures.cost ∙ alone_cost (net_of c.args.problem.now) c.with-alone.result
    c.empty-2.result c.args.u
    (c.with-alone.ensures ∙ ap (λ (xs : List ℕ). with_number c.args.u xs) c.empty.ensures))

pub returns-clause-fixed : goal.returns-clause-fixed
returns-clause-fixed c =
    let s : SFits w128 c.fixed_costs.result = search rules in
    simp to_z-of_z
    (c.fixed_costs.ensures.value ∙ alone_fixed (net_of c.args.problem.now).fix trillion
    c.with-alone.result c.args.u
    (c.with-alone.ensures ∙ ap (λ (xs : List ℕ). with_number c.args.u xs) c.empty.ensures))
