use Rattle.std.proofs.Common.{◌++◌, ◌∷◌, [], ◌∙◌, ap, ℕ, List, decimal}
use Rattle.report_amounts.specs.report_rules.Number.{Number}
use Rattle.report_amounts.specs.report_rules.Report.{number_cell, total_cell}
use Rattle.report_amounts.specs.report_rules.Ranked.{above_first, share_above_cell, change_cell}
use Rattle.report_amounts.specs.report_rules.Ranked.{idle_cell}
use Rattle.report_amounts.specs.report_rules.Ranked.{ranking_row}
use Rattle.report_tables.proofs.Pieces.{after_six, row_of}
use Rattle.report_tables.proofs.ranking.ranking_row.Goals as goal

pub returns : goal.returns
returns c =
    let p = c.args.problem.now in
    let first = c.args.first.now in
    let w = c.args.network.now in
    let r0 = c.new-row.result in
    let r2 = c.push_cost.new.row in
    row_of r0 c.push_idle.new.row [] (ranking_row p first c.args.place w) c.new-row.ensures
    (after_six r0 c.push_place.new.row r2 c.push_number.new.row c.push_share_above.new.row
    c.push_change.new.row c.push_idle.new.row
    (decimal c.args.place ∷ []) (total_cell p w ∷ []) (number_cell (above_first p first w) ∷ [])
    (share_above_cell first w ∷ []) (change_cell p first w ∷ []) (idle_cell p w ∷ [])
    c.in_ok-push_place.ensures c.in_ok-push_cost.ensures
    (c.in_ok-push_number.ensures
    ∙ ap (λ (n : Number). r2 ++ number_cell n ∷ []) c.above_first.ensures)
    c.in_ok-push_share_above.ensures c.in_ok-push_change.ensures c.in_ok-push_idle.ensures)
