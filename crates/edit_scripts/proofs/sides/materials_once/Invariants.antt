use Rattle.std.proofs.Common.{◌≡◌, take}
use Rattle.text_lines.specs.View.{texts}
use Rattle.text_lines.specs.Terms.{terms_view}
use Rattle.text_lines.specs.edit_rules.Term.{materials_of}
use Rattle.edit_scripts.proofs.sides.materials_once.Given as goal

abbrev pub invariant-listing : goal.invariant-listing
invariant-listing l = texts l.names.items ≡ materials_of (terms_view (take l.term-index l.terms))
