use Rattle.std.proofs.Common.{◌≡◌, ◌∙◌, [], Ok, sym, subst, List, Result}
use Rattle.std.specs.Prelude.{IfOk, IfErr}
use Rattle.tree_reading.specs.text_lines.Tells.{Tells}
use Rattle.report_rules.specs.tree_text_rules.Read.{Fault}
use Rattle.report_rules.specs.tree_text_rules.Line.{lines_of}
use Rattle.tree_reading.specs.Place.{lines_at}
use Rattle.tree_reading.specs.View.{line_of}
use Rattle.report_rules.specs.declared.row.Row.{Row}
use Rattle.json_text.proofs.Rows.{headed}
use Rattle.json_text.proofs.read.read_table.Goals as goal

pub returns-then-has_headings-clause-read : goal.returns-then-has_headings-clause-read
returns-then-has_headings-clause-read c =
    subst (λ (t : Result (List Row) Fault). IfOk c.read_rows.result (λ rows. t ≡ Ok rows.items))
    (headed c.args.problem.now (lines_of c.args.bytes.now)
    (lines_at c.args.bytes.now c.in-Some.behind) (line_of c.in-Some.line) c.in-Some.ensures.line
    c.in-Some.behind.line (sym c.has_headings.ensures ∙ c.if-has_headings.true)
    c.in-Some.ensures.number)
    c.read_rows.ensures.read

pub returns-then-has_headings-clause-fault : goal.returns-then-has_headings-clause-fault
returns-then-has_headings-clause-fault c =
    subst (λ (t : Result (List Row) Fault). IfErr c.read_rows.result (Tells t))
    (headed c.args.problem.now (lines_of c.args.bytes.now)
    (lines_at c.args.bytes.now c.in-Some.behind) (line_of c.in-Some.line) c.in-Some.ensures.line
    c.in-Some.behind.line (sym c.has_headings.ensures ∙ c.if-has_headings.true)
    c.in-Some.ensures.number)
    c.read_rows.ensures.fault
