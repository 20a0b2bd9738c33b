use Rattle.std.proofs.Common.{◌++◌, ◌∙◌, [], ap, List, ℕ, string_bytes}
use Rattle.report_amounts.specs.report_rules.Aligned.{line_text, cell_text, gap_behind}
use Rattle.report_tables.proofs.Walk.{cell_more}
use Rattle.report_tables.proofs.line.push_line.Goals as goal

pub columns-preserved : goal.columns-preserved
columns-preserved c =
    let heading = c.args.heading in
    let k = c.columns.k in
    let column = c.index-columns-k.result in
    cell_more heading c.args.columns.now k column c.args.row.now (string_bytes c.columns.text)
    (string_bytes c.push_cell.new.text) (string_bytes c.columns.gap)
    (string_bytes c.push_cell.new.gap)
    (string_bytes c.args.text.now ++ line_text heading 0 [] c.args.columns.now c.args.row.now)
    c.columns-test.true c.index-columns-k.is
    (c.in_ok-push_cell.ensures.text
    ∙ ap (λ (cell : List ℕ). string_bytes c.columns.text
    ++ cell_text heading column (string_bytes c.columns.gap) cell) c.cell-cell.ensures)
    (c.in_ok-push_cell.ensures.gap
    ∙ ap (λ (cell : List ℕ). gap_behind heading column (string_bytes c.columns.gap) cell)
    c.cell-cell.ensures)
    c.columns.invariant
