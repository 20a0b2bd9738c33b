use Rattle.std.proofs.Common.{◌∙◌, refl, rules, to_z, of_z, SFits}
use Rattle.std.specs.Int.{w128}
use Rattle.std.proofs.lemmas.Int.{to_z-of_z}
use Rattle.node_evaluation.specs.exact_numbers.Number.{numerator, denominator}
use Rattle.node_evaluation.proofs.Cited.{same_costs}
use Rattle.abb_search.proofs.growing.reaches.Goals as goal

pub returns : goal.returns
returns c =
    let a = c.args.network.now in
    let v = c.args.value.now in
    let h1 : SFits w128 c.cost.result = search rules in
    let h2 : SFits w128 c.d.result = search rules in
    same_costs c.is_at_least.result (to_z w128 (of_z w128 c.cost.result)) a.cost
    (to_z w128 (of_z w128 c.d.result)) a.d (numerator v) (numerator v) (denominator v)
    (denominator v)
    (to_z-of_z w128 c.cost.result h1 ∙ c.cost.ensures) (to_z-of_z w128 c.d.result h2 ∙ c.d.ensures)
    refl refl
    c.is_at_least.ensures
