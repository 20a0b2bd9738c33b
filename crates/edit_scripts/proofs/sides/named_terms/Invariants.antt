use Rattle.std.proofs.Common.{◌≡◌, map, take}
use Rattle.text_lines.specs.Terms.{terms_view}
use Rattle.text_lines.specs.edit_rules.Term.{term_read}
use Rattle.edit_scripts.proofs.sides.named_terms.Given as goal

abbrev pub invariant-naming : goal.invariant-naming
invariant-naming l = l.named.items ≡ map term_read (terms_view (take l.term-index l.terms))
