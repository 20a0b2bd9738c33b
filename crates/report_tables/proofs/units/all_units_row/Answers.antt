use Rattle.std.proofs.Common.{◌∷◌, [], codes}
use Rattle.report_amounts.specs.report_rules.declared.amount.UnitAmount.TheVariants.{Fixed}
use Rattle.report_amounts.specs.report_rules.declared.amount.UnitAmount.TheVariants.{Proportional}
use Rattle.report_amounts.specs.report_rules.declared.amount.UnitAmount.TheVariants.{Investment}
use Rattle.report_amounts.specs.report_rules.declared.amount.UnitAmount.TheVariants.{Total}
use Rattle.report_amounts.specs.report_rules.Amounts.{unit_sum}
use Rattle.report_amounts.specs.report_rules.Report.{number_cell}
use Rattle.report_tables.proofs.Pieces.{after, row_of}
use Rattle.report_tables.proofs.units.all_units_row.Goals as goal

pub returns : goal.returns
returns c =
    let p = c.args.problem.now in
    let w = c.args.network.now in
    row_of c.in_ok-row.row c.push_words.new.row (codes "all units" ∷ [] ∷ [] ∷ [] ∷ [])
    (number_cell (unit_sum Fixed p w) ∷ number_cell (unit_sum Proportional p w)
    ∷ number_cell (unit_sum Investment p w) ∷ number_cell (unit_sum Total p w) ∷ [] ∷ [])
    c.in_ok-row.ensures
    (after c.in_ok-row.row c.push_sums.new.row c.push_words.new.row
    (number_cell (unit_sum Fixed p w) ∷ number_cell (unit_sum Proportional p w)
    ∷ number_cell (unit_sum Investment p w) ∷ number_cell (unit_sum Total p w) ∷ []) ([] ∷ [])
    c.in_ok-push_sums.ensures c.in_ok-push_words.ensures)
