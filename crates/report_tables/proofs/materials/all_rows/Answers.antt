use Rattle.std.proofs.Common.{◌++◌, ◌∷◌, [], ◌∙◌}
use Rattle.report_tables.proofs.materials.all_rows.Goals as goal

pub returns : goal.returns
returns c =
    c.in_ok-push.ensures.items
    ∙ (λ i. c.in_ok-rows.ensures i ++ c.in_ok-all_materials_row.ensures i ∷ [])
