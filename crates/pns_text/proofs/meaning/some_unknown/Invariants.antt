use Rattle.std.proofs.Common.{◌≡◌, not, drop}
use Rattle.std.specs.List.{list_any}
use Rattle.text_lines.specs.problem_rules.Names.{is_among}
use Rattle.text_lines.specs.Terms.{terms_view}
use Rattle.text_lines.specs.text_rules.Fault.{names_of}
use Rattle.pns_text.proofs.meaning.some_unknown.Given as goal

abbrev pub invariant-loop-term : goal.invariant-loop-term
invariant-loop-term l = list_any (λ name. not (is_among l.materials name)) (names_of
    (terms_view (drop l.term-index l.terms)))
    ≡ list_any (λ name. not (is_among l.materials name)) (names_of (terms_view l.terms))
