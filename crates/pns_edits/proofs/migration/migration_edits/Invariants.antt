use Rattle.std.proofs.Common.{◌≡◌, ◌++◌, pos, map, drop}
use Rattle.std.specs.Prelude.{flat_map}
use Rattle.edit_laws.specs.edit_rules.Migration.{unit_migration, migration}
use Rattle.edit_scripts.specs.View.{edit_of}
use Rattle.pns_edits.specs.Terms.{AreAllYearlyInRange}
use Rattle.pns_edits.proofs.migration.migration_edits.Given as goal

abbrev pub invariant-migrating : goal.invariant-migrating
invariant-migrating l = AreAllYearlyInRange (drop l.unit-index l.units) × (map edit_of l.edits.items
    ++ flat_map (unit_migration (pos l.years)) (drop l.unit-index l.units)
    ≡ migration (pos l.years) l.problem)
