use Rattle.std.proofs.Common.{◌∙◌, SFits, rules}
use Rattle.std.specs.Int.{w128}
use Rattle.std.proofs.lemmas.Int.{to_z-of_z}
use Rattle.rank_check.proofs.NetworkLemmas.{reached_as}
use Rattle.rank_check.proofs.order.is_no_cheaper.Goals as goal

pub returns : goal.returns
returns c =
    let cost_fits : SFits w128 c.cost.result = search rules in
    let d_fits : SFits w128 c.d.result = search rules in
    let other_cost_fits : SFits w128 c.cost-2.result = search rules in
    let other_d_fits : SFits w128 c.d-2.result = search rules in
    reached_as c.is_reached.result _ _ _ _ c.args.before.now.cost c.args.before.now.d
    c.args.network.now.cost c.args.network.now.d
    (to_z-of_z w128 c.cost.result cost_fits ∙ c.cost.ensures)
    (to_z-of_z w128 c.d.result d_fits ∙ c.d.ensures)
    (to_z-of_z w128 c.cost-2.result other_cost_fits ∙ c.cost-2.ensures)
    (to_z-of_z w128 c.d-2.result other_d_fits ∙ c.d-2.ensures)
    c.is_reached.ensures
