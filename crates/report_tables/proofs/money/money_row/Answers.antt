use Rattle.std.proofs.Common.{◌∷◌, []}
use Rattle.report_amounts.specs.report_rules.Report.{number_cell}
use Rattle.report_tables.proofs.Pieces.{row_of}
use Rattle.report_tables.proofs.money.money_row.Goals as goal

pub returns : goal.returns
returns c =
    row_of c.in_ok-row.row c.push_number.new.row (c.args.words.now ∷ [])
    (number_cell c.args.number.now ∷ []) c.in_ok-row.ensures c.in_ok-push_number.ensures
