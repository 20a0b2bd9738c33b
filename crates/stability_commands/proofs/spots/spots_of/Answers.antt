use Rattle.std.proofs.Common.{◌≡◌, ◌∙◌, ◌++◌}
use Rattle.std.specs.Prelude.{flat_map}
use Rattle.network_commands.specs.studio_rules.StableTable.{cost_spots}
use Rattle.stability_commands.proofs.RangeRows.{next_items, last_items}
use Rattle.stability_commands.proofs.spots.spots_of.Goals as goal

pub loop-u-init : goal.loop-u-init
loop-u-init c =
    let are : c.into_iter-u-iterator.result ≡ c.args.network.now.units =
    c.into_iter-u-iterator.ensures.into_iter_gives.0 ∙ c.units-u-items.ensures in
    λ i. c.in_ok-spots.ensures i ++ flat_map cost_spots (are i)

pub loop-u-preserved : goal.loop-u-preserved
loop-u-preserved c =
    next_items cost_spots c.loop-u.u-iterator c.next.new.self c.in-Some.u c.loop-u.spots.items
    c.push_costs.new.spots.items _ c.in-Some.ensures.steps c.in_ok-push_costs.ensures
    c.loop-u.invariant

pub returns : goal.returns
returns c =
    last_items cost_spots c.loop-u.u-iterator c.loop-u.spots.items _ c.in-None.ensures.steps.0
    c.loop-u.invariant
