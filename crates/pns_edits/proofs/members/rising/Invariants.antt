use Rattle.std.proofs.Common.{◌≡◌}
use Rattle.edit_laws.specs.number_sets.Sets.{has, listed}
use Rattle.pns_edits.proofs.members.rising.Given as goal

abbrev pub invariant-listing : goal.invariant-listing
invariant-listing l = l.rising.items ≡ listed l.number (has l.numbers)
