use Rattle.std.proofs.Common.{◌≡◌, ◌∙◌, ◌++◌, map}
use Rattle.stability.specs.number_sets.Sets.{has}
use Rattle.stability.specs.flow_rules.Net.{net_of, materials_of}
use Rattle.stability.specs.report_rules.declared.spot.Spot.TheVariants.{Price}
use Rattle.network_commands.proofs.report_tables.Cited.{next_row, last_row}
use Rattle.stability_commands.proofs.spots.price_spots.Goals as goal

pub loop-x-init : goal.loop-x-init
loop-x-init c =
    let xs = materials_of (net_of c.args.site.now) (has c.args.network.now.units) in
    let are : c.into_iter-x-iterator.result ≡ xs =
    c.into_iter-x-iterator.ensures.into_iter_gives.0 ∙ c.materials_in-x-items.ensures in
    λ i. c.new-spots.ensures.items i ++ map Price (are i)

pub loop-x-preserved : goal.loop-x-preserved
loop-x-preserved c =
    next_row Price c.loop-x.x-iterator c.next.new.self c.in-Some.x c.loop-x.spots.items
    c.push.new.self.items _ c.in-Some.ensures.steps c.in_ok-push.ensures.items c.loop-x.invariant

pub returns : goal.returns
returns c =
    last_row Price c.loop-x.x-iterator c.loop-x.spots.items _ c.in-None.ensures.steps.0
    c.loop-x.invariant
