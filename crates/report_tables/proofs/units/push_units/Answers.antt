use Rattle.std.proofs.Common.{◌≡◌, ◌<◌, ◌++◌, ◌∙◌, sym, ap, subst, length, string_bytes}
use Rattle.text_lines.specs.problem_rules.Problem.{Problem}
use Rattle.cert_check.specs.pns_problem.Printing.{printed}
use Rattle.report_amounts.specs.report_rules.Report.{table_and_gap, unit_sorts, unit_rows}
use Rattle.report_tables.proofs.units.push_units.Goals as goal

pub all_rows-requires : goal.all_rows-requires
all_rows-requires c u h =
    subst (λ (p : Problem). u < length p.units) (sym c.problem.ensures.same)
    (c.requires.known u h)

pub returns : goal.returns
returns c =
    let w = c.args.network.now in
    let m = c.args.marginals.now in
    let rows : c.deref.result.now ≡ unit_rows c.args.plant.now.site.now w m =
    c.deref.ensures.value ∙ c.in_ok-rows.ensures
    ∙ ap (λ (p : Problem). unit_rows p w m) c.problem.ensures.same in
    c.in_ok-push_table_and_gap.ensures
    ∙ (λ i. string_bytes c.args.text.now
    ++ printed (table_and_gap unit_sorts (c.in_ok-heading.ensures i) (rows i)))
