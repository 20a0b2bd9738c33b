use Rattle.std.proofs.Common.{◌∙◌, rules, to_z, of_z, SFits}
use Rattle.std.specs.Int.{w128}
use Rattle.std.proofs.lemmas.Int.{to_z-of_z}
use Rattle.node_evaluation.proofs.ChildLemmas.{same_costs}
use Rattle.node_evaluation.proofs.children.costs_no_more.Goals as goal

pub returns : goal.returns
returns c =
    let a = c.args.a.now in
    let b = c.args.b.now in
    let h1 : SFits w128 c.cost.result = search rules in
    let h2 : SFits w128 c.d.result = search rules in
    let h3 : SFits w128 c.cost-2.result = search rules in
    let h4 : SFits w128 c.d-2.result = search rules in
    same_costs c.is_no_more.result (to_z w128 (of_z w128 c.cost.result)) a.cost
    (to_z w128 (of_z w128 c.d.result)) a.d (to_z w128 (of_z w128 c.cost-2.result)) b.cost
    (to_z w128 (of_z w128 c.d-2.result)) b.d
    (to_z-of_z w128 c.cost.result h1 ∙ c.cost.ensures) (to_z-of_z w128 c.d.result h2 ∙ c.d.ensures)
    (to_z-of_z w128 c.cost-2.result h3 ∙ c.cost-2.ensures)
    (to_z-of_z w128 c.d-2.result h4 ∙ c.d-2.ensures)
    c.is_no_more.ensures
