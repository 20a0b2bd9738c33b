use Rattle.std.proofs.Common.{◌∷◌, [], ◌++◌, ◌∙◌, ap}
use Rattle.tree_reading.specs.pns_problem.Printing.{printed}
use Rattle.report_rules.specs.Json.{comma_lines}
use Rattle.json_text.proofs.Pieces.{three_blocks}
use Rattle.json_text.proofs.text.bare_of.Goals as goal

pub returns : goal.returns
returns c =
    let lines = comma_lines c.args.head.now in
    three_blocks c.new-text.result.items c.push_line.new.text.items
    c.push_comma_lines.new.text.items c.push_line-2.new.text.items ((123 ∷ []) ∷ []) lines
    ((125 ∷ []) ∷ [])
    c.in_ok-push_line.ensures c.in_ok-push_comma_lines.ensures c.in_ok-push_line-2.ensures
    ∙ ap (λ t. t ++ printed ((123 ∷ []) ∷ (lines ++ (125 ∷ []) ∷ []))) c.new-text.ensures.items
