use Rattle.std.proofs.Common.{◌≡◌, ◌++◌, map, take, drop}
use Rattle.pns_edits.specs.Renumbering.{new_number}
use Rattle.pns_edits.proofs.numbering.renumber_members.Given as goal

abbrev pub invariant-moving : goal.invariant-moving
invariant-moving l = l.members ≡ map (new_number l.by) (take l.member-index
    l.fn.members) ++ drop l.member-index l.fn.members
