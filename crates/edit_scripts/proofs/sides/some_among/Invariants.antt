use Rattle.std.proofs.Common.{◌≡◌, drop}
use Rattle.std.specs.List.{list_any}
use Rattle.text_lines.specs.problem_rules.Names.{is_among}
use Rattle.text_lines.specs.Terms.{terms_view}
use Rattle.text_lines.specs.edit_rules.Term.{materials_of}
use Rattle.edit_scripts.proofs.sides.some_among.Given as goal

abbrev pub invariant-looking : goal.invariant-looking
invariant-looking l = list_any (is_among l.names) (materials_of
    (terms_view (drop l.term-index l.terms)))
    ≡ list_any (is_among l.names) (materials_of (terms_view l.terms))
