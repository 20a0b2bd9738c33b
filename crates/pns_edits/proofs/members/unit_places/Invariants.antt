use Rattle.std.proofs.Common.{◌≡◌, take, drop, map, string_bytes}
use Rattle.edit_laws.specs.edit_rules.Place.{unit_place, lacks_unit}
use Rattle.pns_edits.proofs.members.unit_places.Given as goal

abbrev pub invariant-placing : goal.invariant-placing
invariant-placing l = (l.places.items
    ≡ map (unit_place l.parts) (map string_bytes (take l.name-index l.names)))
    × (lacks_unit l.parts (map string_bytes (drop l.name-index l.names))
    ≡ lacks_unit l.parts (map string_bytes l.names))
