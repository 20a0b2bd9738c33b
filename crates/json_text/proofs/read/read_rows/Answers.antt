use Rattle.std.proofs.Common.{◌≡◌, ◌∙◌, [], false, true, sym, ap, suc, List, Result, ℕ, subst}
use Rattle.std.proofs.lemmas.Result.{err_from_is_err_and}
use Rattle.report_rules.specs.tree_text_rules.Read.{Fault}
use Rattle.tree_reading.specs.Place.{lines_at}
use Rattle.tree_reading.specs.View.{line_of}
use Rattle.report_rules.specs.RangeTable.{words_of, has_no_word, rows_taken}
use Rattle.report_rules.specs.declared.row.Row.{Row}
use Rattle.json_text.proofs.Rows.{next_row, told_row, last_row, no_line}
use Rattle.json_text.proofs.read.read_rows.Goals as goal

pub returns-then-has_no_word-clause-read : goal.returns-then-has_no_word-clause-read
returns-then-has_no_word-clause-read c =
    last_row c.args.problem.now c.reading.rows.items c.reading.at.line
    (lines_at c.args.bytes.now c.reading.at) (lines_at c.args.bytes.now c.in-Some.behind)
    (line_of c.in-Some.line)
    (rows_taken c.args.problem.now [] c.args.cut.line (lines_at c.args.bytes.now c.args.cut))
    c.in-Some.ensures.line c.reading.invariant.whole
    (sym c.has_no_word.ensures ∙ c.if-has_no_word.true)

pub returns-in_err-row-clause-fault : goal.returns-in_err-row-clause-fault
returns-in_err-row-clause-fault c =
    let e = err_from_is_err_and c.from_residual.result c.from_residual.ensures.1 in
    rw (e.1, e.2)
    (told_row c.args.problem.now c.reading.rows.items c.reading.at.line
    (lines_at c.args.bytes.now c.reading.at) (lines_at c.args.bytes.now c.in-Some.behind)
    (line_of c.in-Some.line)
    (rows_taken c.args.problem.now [] c.args.cut.line (lines_at c.args.bytes.now c.args.cut))
    c.in-Some.ensures.line c.reading.invariant.whole _
    (sym c.has_no_word.ensures ∙ c.if-has_no_word.false) c.in_err-row.ensures.fault)

pub reading-preserved : goal.reading-preserved
reading-preserved c =
    let p = c.args.problem.now in
    let behind = c.in-Some.behind in
    let rest = lines_at c.args.bytes.now behind in
    let all : Result (List Row) Fault =
    rows_taken p [] c.args.cut.line (lines_at c.args.bytes.now c.args.cut) in
    let next : rows_taken p (c.push.new.self.items) (suc c.reading.at.line) rest ≡ all =
    ap (λ (rows : List Row). rows_taken p rows (suc c.reading.at.line) rest)
    c.in_ok-push.ensures.items
    ∙ next_row p c.reading.rows.items c.reading.at.line (lines_at c.args.bytes.now c.reading.at)
    rest (line_of c.in-Some.line) all c.in-Some.ensures.line c.reading.invariant.whole
    c.in_ok-row.row (sym c.has_no_word.ensures ∙ c.if-has_no_word.false) c.in_ok-row.ensures.ok in
    record {
      whole =
          ap (λ (number : ℕ). rows_taken p c.push.new.self.items number rest)
          c.in-Some.ensures.number ∙ next;
      is_cut = c.in-Some.ensures.cut;
    }

pub returns-clause-read : goal.returns-clause-read
returns-clause-read c =
    no_line c.args.problem.now c.reading.rows.items c.reading.at.line
    (lines_at c.args.bytes.now c.reading.at)
    (rows_taken c.args.problem.now [] c.args.cut.line (lines_at c.args.bytes.now c.args.cut))
    c.in_default.ensures.none c.reading.invariant.whole
