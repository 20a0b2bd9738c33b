use Rattle.std.proofs.Common.{◌++◌, ◌∷◌, [], ◌∙◌, ap, ℕ, List, Option, codes}
use Rattle.report_amounts.specs.report_rules.Measures.{with_measure}
use Rattle.report_tables.proofs.Pieces.{row_of}
use Rattle.report_tables.proofs.units.unit_heading.Goals as goal

abbrev costs : Option (List ℕ) → List (List ℕ)
costs money = with_measure money (codes "fixed") ∷ with_measure money (codes "proportional")
    ∷ with_measure money (codes "investment") ∷ with_measure money (codes "total")
    ∷ with_measure money (codes "marginal") ∷ []

pub returns : goal.returns
returns c =
    row_of c.in_ok-row.row c.push_headings.new.row
    (codes "unit" ∷ codes "size" ∷ codes "share %" ∷ codes "limit" ∷ [])
    (costs c.args.measures.now.money) c.in_ok-row.ensures
    (c.in_ok-push_headings.ensures
    ∙ ap (λ (m : Option (List ℕ)). c.in_ok-row.row ++ costs m) c.money.ensures)
