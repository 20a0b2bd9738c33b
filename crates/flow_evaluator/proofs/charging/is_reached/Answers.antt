use Rattle.std.proofs.Common.{◌∙◌, rules, to_z, of_z, SFits}
use Rattle.std.specs.Int.{w128}
use Rattle.std.proofs.lemmas.Int.{to_z-of_z}
use Rattle.node_evaluation.proofs.Cited.{same_costs}
use Rattle.flow_evaluator.proofs.charging.is_reached.Goals as goal

pub returns : goal.returns
returns c =
    let w = c.args.network.now in
    let h1 : SFits w128 c.cost.result = search rules in
    let h2 : SFits w128 c.d.result = search rules in
    let h3 : SFits w128 c.args.number = search rules in
    let h4 : SFits w128 c.args.d = search rules in
    (same_costs c.is_no_more.result (to_z w128 (of_z w128 c.cost.result)) w.cost
    (to_z w128 (of_z w128 c.d.result)) w.d (to_z w128 (of_z w128 c.args.number)) c.args.number
    (to_z w128 (of_z w128 c.args.d)) c.args.d
    (to_z-of_z w128 c.cost.result h1 ∙ c.cost.ensures) (to_z-of_z w128 c.d.result h2 ∙ c.d.ensures)
    (to_z-of_z w128 c.args.number h3) (to_z-of_z w128 c.args.d h4) c.is_no_more.ensures).0
