use Rattle.std.proofs.Common.{◌++◌, ◌∷◌, [], ◌∙◌, ap, ℕ, List, Option, codes}
use Rattle.report_amounts.specs.report_rules.Measures.{with_measure}
use Rattle.report_tables.proofs.Pieces.{after_four, row_of}
use Rattle.report_tables.proofs.ranking.ranking_heading.Goals as goal

abbrev costs : Option (List ℕ) → List (List ℕ)
costs money = with_measure money (codes "cost") ∷ with_measure money (codes "above") ∷ []

pub returns : goal.returns
returns c =
    let money = c.args.measures.now.money in
    let r0 = c.in_ok-row.row in
    row_of r0 c.push_words-3.new.row (codes "place" ∷ [])
    (costs money ++ (codes "above %" ∷ codes "change" ∷ codes "idle" ∷ [])) c.in_ok-row.ensures
    (after_four r0 c.push_headings.new.row c.push_words.new.row c.push_words-2.new.row
    c.push_words-3.new.row (costs money) (codes "above %" ∷ []) (codes "change" ∷ [])
    (codes "idle" ∷ [])
    (c.in_ok-push_headings.ensures
    ∙ ap (λ (m : Option (List ℕ)). r0 ++ costs m) c.money.ensures)
    c.in_ok-push_words.ensures c.in_ok-push_words-2.ensures c.in_ok-push_words-3.ensures)
