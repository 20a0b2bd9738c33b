use Rattle.std.proofs.Common.{◌≡◌, take, map, string_bytes}
use Rattle.edit_laws.specs.edit_rules.Place.{member_names}
use Rattle.pns_edits.proofs.members.member_names.Given as goal

abbrev pub invariant-naming : goal.invariant-naming
invariant-naming l = map string_bytes l.names.items ≡ member_names l.parts (take l.unit-index
    l.units)
