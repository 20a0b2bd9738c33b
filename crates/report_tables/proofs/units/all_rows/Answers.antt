use Rattle.std.proofs.Common.{◌++◌, ◌∷◌, [], ◌∙◌}
use Rattle.report_tables.proofs.units.all_rows.Goals as goal

pub returns : goal.returns
returns c =
    c.in_ok-push.ensures.items
    ∙ (λ i. c.in_ok-rows.ensures i ++ c.in_ok-all_units_row.ensures i ∷ [])
