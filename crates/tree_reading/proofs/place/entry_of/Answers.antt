use Rattle.std.proofs.Common.{◌≡◌, List, ◌∷◌, length, ap, sym, refl, ◌∙◌, arith}
use Rattle.std.proofs.lemmas.Result.{err_from_is_err_and, IfOk-at_ok}
use Rattle.tree_text_rules.specs.Line.{Token}
use Rattle.tree_reading.specs.View.{tokens_in}
use Rattle.tree_reading.proofs.Counted.{not_entry}
use Rattle.tree_reading.proofs.Entries.{entry_read}
use Rattle.tree_reading.proofs.place.entry_of.Goals as goal

pub returns-in_err-leave-clause-value : goal.returns-in_err-leave-clause-value
returns-in_err-leave-clause-value c =
    let e = err_from_is_err_and c.from_residual.result c.from_residual.ensures.1 in
    rw (e.1, e.2, c.in_err-leave.ensures.fault.0, c.in_err-leave.ensures.fault.1) refl

pub returns-in_err-enter-clause-value : goal.returns-in_err-enter-clause-value
returns-in_err-enter-clause-value c =
    let e =
    err_from_is_err_and c.from_residual-in_err-enter.result
    c.from_residual-in_err-enter.ensures.1 in
    rw (
      e.1,
      e.2,
      c.in_err-enter.ensures.fault.0,
      c.in_ok-leave.ensures.ok,
      c.in_err-enter.ensures.fault.1,
    ) refl

pub returns-in_err-row-clause-value : goal.returns-in_err-row-clause-value
returns-in_err-row-clause-value c =
    let e =
    err_from_is_err_and c.from_residual-in_err-row.result
    c.from_residual-in_err-row.ensures.1 in
    rw (
      e.1,
      e.2,
      c.in_err-row.ensures.fault.0,
      c.in_ok-leave.ensures.ok,
      c.in_ok-enter.ensures.ok,
      c.in_err-row.ensures.fault.1,
    ) refl

pub returns-in_err-column-clause-value : goal.returns-in_err-column-clause-value
returns-in_err-column-clause-value c =
    let e =
    err_from_is_err_and c.from_residual-in_err-column.result
    c.from_residual-in_err-column.ensures.1 in
    let one = ap length c.in_ok-leave.ensures.ok in
    let two = ap length c.in_ok-enter.ensures.ok in
    let three = ap length c.in_ok-row.ensures.ok in
    rw (e.1, e.2, c.in_err-column.ensures.fault.0)
    (sym
    (not_entry c.args.problem.now (tokens_in c.args.fields)
    (λ (five : length (tokens_in c.args.fields) ≡ 5). c.in_err-column.ensures.fault.1
    (omega (arith, one, two, three, five)))))

pub returns-in_err-leave-2-clause-value : goal.returns-in_err-leave-2-clause-value
returns-in_err-leave-2-clause-value c =
    let e =
    err_from_is_err_and c.from_residual-in_err-leave-2.result
    c.from_residual-in_err-leave-2.ensures.1 in
    rw (e.1, e.2)
    (entry_read c.args.problem.now (tokens_in c.args.fields) _
    (c.in_ok-leave.ensures.ok
    ∙ ap (λ (ts : List Token). c.in_ok-leave.leave.now ∷ ts)
    (c.in_ok-enter.ensures.ok ∙ ap (λ (ts : List Token). c.in_ok-enter.enter.now ∷ ts)
    (c.in_ok-row.ensures.ok
    ∙ ap (λ (ts : List Token). c.in_ok-row.row.now ∷ ts) c.in_ok-column.ensures.ok)))
    c.column_of-3.ensures.value c.column_of-2.ensures.value c.row_of.ensures.value
    c.column_of.ensures.value c.which_of.ensures
    c.both-behind_row.ensures.value c.both-behind_enter.ensures.value
    c.both-behind_leave.ensures.value c.in_err-leave-2.ensures.value)

pub returns-clause-value : goal.returns-clause-value
returns-clause-value c =
    entry_read c.args.problem.now (tokens_in c.args.fields) _
    (c.in_ok-leave.ensures.ok
    ∙ ap (λ (ts : List Token). c.in_ok-leave.leave.now ∷ ts)
    (c.in_ok-enter.ensures.ok ∙ ap (λ (ts : List Token). c.in_ok-enter.enter.now ∷ ts)
    (c.in_ok-row.ensures.ok
    ∙ ap (λ (ts : List Token). c.in_ok-row.row.now ∷ ts) c.in_ok-column.ensures.ok)))
    c.column_of-3.ensures.value c.column_of-2.ensures.value c.row_of.ensures.value
    c.column_of.ensures.value c.which_of.ensures
    c.both-behind_row.ensures.value c.both-behind_enter.ensures.value
    c.both-behind_leave.ensures.value c.in_ok-leave-2.ensures.value

pub returns-clause-known : goal.returns-clause-known
returns-clause-known c =
    let enters = IfOk-at_ok _ c.in_ok-leave-2.ensures.parts.1 c.both-behind_leave.ensures.parts in
    let rows = IfOk-at_ok _ enters.1 c.both-behind_enter.ensures.parts in
    let columns = IfOk-at_ok _ rows.1 c.both-behind_row.ensures.parts in (
      IfOk-at_ok _ c.in_ok-leave-2.ensures.parts.0 c.column_of-3.ensures.known,
      IfOk-at_ok _ enters.0 c.column_of-2.ensures.known,
      IfOk-at_ok _ rows.0 c.row_of.ensures.known,
      IfOk-at_ok _ columns.0 c.column_of.ensures.known,
    )
