use Rattle.std.proofs.Common.{◌≡◌, drop}
use Rattle.text_lines.specs.Terms.{terms_view}
use Rattle.text_lines.specs.edit_rules.ScriptFault.{lesser}
use Rattle.text_lines.specs.edit_rules.Term.{terms_fault}
use Rattle.edit_scripts.proofs.sides.terms_fault.Given as goal

abbrev pub invariant-looking : goal.invariant-looking
invariant-looking l = lesser l.found (terms_fault
    (terms_view (drop l.term-index l.terms))) ≡ terms_fault (terms_view l.terms)
