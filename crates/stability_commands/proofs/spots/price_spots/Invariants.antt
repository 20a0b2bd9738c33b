use Rattle.std.proofs.Common.{◌≡◌, ◌++◌, map}
use Rattle.stability.specs.number_sets.Sets.{has}
use Rattle.stability.specs.flow_rules.Net.{net_of, materials_of}
use Rattle.stability.specs.report_rules.declared.spot.Spot.TheVariants.{Price}
use Rattle.stability_commands.proofs.spots.price_spots.Given as goal

-- the spots so far and those of the materials that are left are all
abbrev pub invariant-loop-x : goal.invariant-loop-x
invariant-loop-x l = l.spots.items ++ map Price l.x-iterator
    ≡ map Price (materials_of (net_of l.fn.site) (has l.fn.network.units))
