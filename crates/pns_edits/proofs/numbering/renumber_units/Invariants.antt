use Rattle.std.proofs.Common.{◌≡◌, ◌++◌, map, take, drop}
use Rattle.edit_laws.specs.edit_rules.Numbering.{in_unit}
use Rattle.pns_edits.specs.Renumbering.{new_number}
use Rattle.pns_edits.proofs.numbering.renumber_units.Given as goal

abbrev pub invariant-moving : goal.invariant-moving
invariant-moving l = l.units ≡ map (in_unit (new_number l.by)) (take l.unit-index
    l.fn.units) ++ drop l.unit-index l.fn.units
