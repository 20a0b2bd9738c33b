use Rattle.std.proofs.Common.{◌≡◌, take}
use Rattle.edit_laws.specs.edit_rules.Place.{named_terms}
use Rattle.pns_edits.proofs.terms.named_terms.Given as goal

abbrev pub invariant-naming : goal.invariant-naming
invariant-naming l = l.named.items ≡ named_terms l.parts (take l.term-index l.terms)
