use Rattle.std.proofs.Common.{◌≡◌, drop}
use Rattle.edit_laws.specs.number_sets.Sets.{has}
use Rattle.pns_edits.proofs.numbering.has_number.Given as goal

abbrev pub invariant-looking : goal.invariant-looking
invariant-looking l = has (drop l.number-index l.numbers) l.k ≡ has l.numbers l.k
