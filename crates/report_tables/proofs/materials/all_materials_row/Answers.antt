use Rattle.std.proofs.Common.{◌++◌, ◌∷◌, [], ◌∙◌, ap, codes}
use Rattle.report_amounts.specs.report_rules.Number.{Number}
use Rattle.report_amounts.specs.report_rules.declared.cost_part.CostPart.TheVariants.{All}
use Rattle.report_amounts.specs.report_rules.Amounts.{cost_sum}
use Rattle.report_amounts.specs.report_rules.Report.{number_cell}
use Rattle.report_tables.proofs.Pieces.{after, row_of}
use Rattle.report_tables.proofs.materials.all_materials_row.Goals as goal

pub returns : goal.returns
returns c =
    let sum = number_cell (cost_sum All c.args.site.now c.args.network.now) in
    row_of c.in_ok-row.row c.push_words.new.row
    (codes "all materials" ∷ [] ∷ [] ∷ [] ∷ [] ∷ [] ∷ [] ∷ []) (sum ∷ [] ∷ []) c.in_ok-row.ensures
    (after c.in_ok-row.row c.push_number.new.row c.push_words.new.row (sum ∷ []) ([] ∷ [])
    (c.in_ok-push_number.ensures
    ∙ ap (λ (n : Number). c.in_ok-row.row ++ number_cell n ∷ []) c.cost_sum.ensures)
    c.in_ok-push_words.ensures)
