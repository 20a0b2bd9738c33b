use Rattle.std.proofs.Common.{◌++◌, ◌∙◌, ap, ℕ, List, string_bytes, arith}
use Rattle.report_amounts.specs.report_rules.Aligned.{table_lines}
use Rattle.report_amounts.specs.report_rules.Report.{table_and_gap}
use Rattle.report_tables.proofs.Pieces.{with_empty_line}
use Rattle.report_tables.proofs.tables.push_table_and_gap.Goals as goal

pub returns : goal.returns
unfolding table_and_gap
returns c =
    let t1 = string_bytes c.push_table.new.text in
    with_empty_line (table_lines c.args.sorts.now c.args.heading.now c.args.rows.now)
    (string_bytes c.args.text.now) t1 (string_bytes c.push.new.self)
    c.in_ok-push_table.ensures
    (c.in_ok-push.ensures.bytes
    ∙ ap (λ (t : List ℕ). t1 ++ t) (c.in_ok-push.ensures.ascii (omega arith)))
