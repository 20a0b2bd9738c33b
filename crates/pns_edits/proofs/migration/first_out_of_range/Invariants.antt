use Rattle.std.proofs.Common.{◌≡◌, pos, drop}
use Rattle.std.specs.List.{position_from}
use Rattle.edit_laws.specs.edit_rules.Migration.{migrates_out_of_range}
use Rattle.pns_edits.specs.Terms.{AreAllYearlyInRange}
use Rattle.pns_edits.proofs.migration.first_out_of_range.Given as goal

abbrev pub invariant-looking : goal.invariant-looking
invariant-looking l = AreAllYearlyInRange (drop l.at l.units) × (position_from
    (migrates_out_of_range (pos l.years)) l.at (drop l.at l.units)
    ≡ position_from (migrates_out_of_range (pos l.years)) 0 l.units)
