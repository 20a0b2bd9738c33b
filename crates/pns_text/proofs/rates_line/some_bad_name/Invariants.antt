use Rattle.std.proofs.Common.{◌≡◌, drop, not}
use Rattle.std.specs.List.{list_any}
use Rattle.text_lines.specs.problem_rules.Names.{is_name}
use Rattle.text_lines.specs.Terms.{terms_view}
use Rattle.pns_text.proofs.rates_line.some_bad_name.Given as goal

abbrev pub invariant-loop-term : goal.invariant-loop-term
invariant-loop-term l = list_any (λ term. not (is_name term.1)) (terms_view
    (drop l.term-index l.terms)) ≡ list_any (λ term. not (is_name term.1)) (terms_view l.terms)
