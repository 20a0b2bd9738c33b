use Rattle.std.proofs.Common.{◌≡◌, ◌++◌, ◌∙◌, string_bytes}
use Rattle.cert_check.specs.pns_problem.Printing.{printed}
use Rattle.report_amounts.specs.report_rules.Report.{table_and_gap, money_sorts, money_rows}
use Rattle.report_tables.proofs.money.push_money.Goals as goal

pub returns : goal.returns
returns c =
    let rows : c.deref.result.now ≡ money_rows c.args.plant.now.site.now c.args.network.now =
    c.deref.ensures.value ∙ c.in_ok-rows.ensures in
    c.in_ok-push_table_and_gap.ensures
    ∙ (λ i. string_bytes c.args.text.now
    ++ printed (table_and_gap money_sorts (c.in_ok-heading.ensures i) (rows i)))
