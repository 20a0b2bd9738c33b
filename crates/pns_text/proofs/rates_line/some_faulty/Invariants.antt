use Rattle.std.proofs.Common.{◌≡◌, drop}
use Rattle.std.specs.List.{list_any}
use Rattle.pns_text.specs.Fault.{is_faulty}
use Rattle.text_lines.specs.Terms.{terms_view}
use Rattle.pns_text.proofs.rates_line.some_faulty.Given as goal

abbrev pub invariant-loop-term : goal.invariant-loop-term
invariant-loop-term l = list_any is_faulty (terms_view
    (drop l.term-index l.terms)) ≡ list_any is_faulty (terms_view l.terms)
