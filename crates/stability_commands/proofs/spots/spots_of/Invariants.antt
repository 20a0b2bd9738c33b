use Rattle.std.proofs.Common.{◌≡◌, ◌++◌}
use Rattle.std.specs.Prelude.{flat_map}
use Rattle.network_commands.specs.studio_rules.StableTable.{cost_spots, spots_of}
use Rattle.stability_commands.proofs.spots.spots_of.Given as goal

-- the spots so far and those of the units that are left are all
abbrev pub invariant-loop-u : goal.invariant-loop-u
invariant-loop-u l = l.spots.items ++ flat_map cost_spots l.u-iterator
    ≡ spots_of l.fn.site l.fn.network
