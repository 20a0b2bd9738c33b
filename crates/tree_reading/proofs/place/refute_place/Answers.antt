use Rattle.std.proofs.Common.{refl}
use Rattle.std.proofs.lemmas.Result.{err_from_is_err_and, IfOk-at_ok}
use Rattle.tree_text_rules.specs.flow_rules.declared.place.Place.TheVariants.{Refute}
use Rattle.tree_text_rules.specs.Token as rules
use Rattle.tree_reading.specs.View.{tokens_in}
use Rattle.tree_reading.proofs.Counted.{not_two}
use Rattle.tree_reading.proofs.Entries.{two_read}
use Rattle.tree_reading.proofs.place.refute_place.Goals as goal

pub returns-in_err-row-clause-value : goal.returns-in_err-row-clause-value
returns-in_err-row-clause-value c =
    let e = err_from_is_err_and c.from_residual.result c.from_residual.ensures.1 in
    rw (
      e.1,
      e.2,
      c.in_err-row.ensures.fault.0,
      not_two (rules.column_of c.args.problem.now) rules.count_of (tokens_in c.args.fields)
          c.in_err-row.ensures.fault.1,
    ) refl

pub returns-in_err-row-2-clause-value : goal.returns-in_err-row-2-clause-value
returns-in_err-row-2-clause-value c =
    let e =
    err_from_is_err_and c.from_residual-in_err-row-2.result
    c.from_residual-in_err-row-2.ensures.1 in
    rw (e.1, e.2)
    (two_read (λ found. Refute found.0 found.1) (rules.column_of c.args.problem.now)
    rules.count_of (tokens_in c.args.fields) _ c.in_ok-row.ensures.ok c.column_of.ensures.value
    c.count_of.ensures c.in_err-row-2.ensures.value)

pub returns-clause-value : goal.returns-clause-value
returns-clause-value c =
    two_read (λ found. Refute found.0 found.1) (rules.column_of c.args.problem.now) rules.count_of
    (tokens_in c.args.fields) _ c.in_ok-row.ensures.ok c.column_of.ensures.value c.count_of.ensures
    c.in_ok-row-2.ensures.value

pub returns-clause-known : goal.returns-clause-known
returns-clause-known c = IfOk-at_ok _ c.in_ok-row-2.ensures.parts.0 c.column_of.ensures.known
