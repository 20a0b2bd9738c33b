use Rattle.std.proofs.Common.{◌≡◌, ℕ, suc, List, Result, Ok, rules, sym, subst}
use Rattle.std.proofs.lemmas.Result.{err_from_is_err_and}
use Rattle.tree_text_rules.specs.flow_rules.declared.place.Column.{Column}
use Rattle.tree_text_rules.specs.tree_rules.Tail.{Tail, past}
use Rattle.tree_text_rules.specs.Line.{Line}
use Rattle.tree_text_rules.specs.LineRead.{nonbasic_read, place_read}
use Rattle.tree_text_rules.specs.Read.{Fault, first_line, close_taken}
use Rattle.text_lines.specs.Tells.{Tells}
use Rattle.tree_reading.specs.Place.{lines_at}
use Rattle.tree_reading.specs.Taken.{taken, line_taken}
use Rattle.tree_reading.proofs.FirstLines.{first_next, first_tells}
use Rattle.tree_reading.proofs.tail.read_past.Goals as goal

pub returns-in_err-place : goal.returns-in_err-place
returns-in_err-place c =
    let e =
    err_from_is_err_and c.from_residual-in_err-place.result
    c.from_residual-in_err-place.ensures.1 in
    let p = c.args.problem.now in
    let bytes = c.args.bytes.now in
    let first = c.in_ok-line.first in
    let columns = c.in_ok-nonbasic.nonbasic.items in
    let one : line_taken (nonbasic_read p) c.args.cut.line (lines_at bytes c.args.cut)
    ≡ Ok (taken columns bytes first) = search rules in
    let two : Tells (line_taken (place_read p) first.line (lines_at bytes first))
    c.in_err-place.field-0.0 = search rules in
    rw (e.1, e.2)
    (subst (λ (r : Result Tail Fault). Tells r c.in_err-place.field-0.0)
    (sym (first_next (nonbasic_read p) c.args.cut.line (lines_at bytes c.args.cut)
    (λ (columns : List Column) (number : ℕ) (lines : List Line). first_line (place_read p) number
    lines (λ place lines. close_taken (past c.args.node columns place) (suc number) lines))
    (taken columns bytes first) one))
    (first_tells (place_read p) first.line (lines_at bytes first)
    (λ place lines. close_taken (past c.args.node columns place) (suc first.line) lines) _ two))
