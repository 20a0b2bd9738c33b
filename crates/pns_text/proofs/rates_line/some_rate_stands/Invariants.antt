use Rattle.std.proofs.Common.{◌≡◌, drop}
use Rattle.std.specs.List.{list_any}
use Rattle.text_lines.specs.text_rules.Fault.{rate_stands}
use Rattle.text_lines.specs.Terms.{terms_view}
use Rattle.pns_text.proofs.rates_line.some_rate_stands.Given as goal

abbrev pub invariant-loop-term : goal.invariant-loop-term
invariant-loop-term l = list_any (rate_stands l.kind) (terms_view
    (drop l.term-index l.terms)) ≡ list_any (rate_stands l.kind) (terms_view l.terms)
