use Rattle.std.proofs.Common.{◌≡◌, ◌++◌, map, take, drop}
use Rattle.edit_laws.specs.edit_rules.Numbering.{in_exclusion}
use Rattle.pns_edits.specs.Renumbering.{new_number}
use Rattle.pns_edits.proofs.numbering.renumber_exclusions.Given as goal

abbrev pub invariant-moving : goal.invariant-moving
invariant-moving l = l.exclusions ≡ map (in_exclusion (new_number l.by)) (take l.exclusion-index
    l.fn.exclusions) ++ drop l.exclusion-index l.fn.exclusions
