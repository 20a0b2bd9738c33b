use Rattle.std.proofs.Common.{◌≡◌, take}
use Rattle.text_lines.specs.text_rules.Fault.{names_of}
use Rattle.text_lines.specs.View.{texts}
use Rattle.text_lines.specs.Terms.{terms_view}
use Rattle.pns_text.proofs.rates_line.names_of.Given as goal

abbrev pub invariant-loop-term : goal.invariant-loop-term
invariant-loop-term l = texts l.names.items ≡ names_of (terms_view (take l.term-index l.terms))
