use Rattle.std.proofs.Common.{◌≡◌, ◌++◌, ◌∙◌, ap, string_bytes}
use Rattle.text_lines.specs.problem_rules.Problem.{Problem}
use Rattle.cert_check.specs.pns_problem.Printing.{printed}
use Rattle.report_amounts.specs.report_rules.Report.{table_and_gap}
use Rattle.report_amounts.specs.report_rules.Ranked.{ranking_sorts, ranking_rows}
use Rattle.report_tables.proofs.ranking.push_ranking.Goals as goal

pub returns : goal.returns
returns c =
    let w = c.args.first.now in
    let ws = c.args.networks.now in
    let rows : c.deref.result.now ≡ ranking_rows c.args.plant.now.site.now w 1 ws =
    c.deref.ensures.value ∙ c.in_ok-rows.ensures
    ∙ ap (λ (p : Problem). ranking_rows p w 1 ws) c.problem.ensures.same in
    c.in_ok-push_table_and_gap.ensures
    ∙ (λ i. string_bytes c.args.text.now
    ++ printed (table_and_gap ranking_sorts (c.in_ok-heading.ensures i) (rows i)))
