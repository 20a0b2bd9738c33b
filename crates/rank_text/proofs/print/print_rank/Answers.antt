use Rattle.std.proofs.lemmas.Result.{err_from_is_err_and}
use Rattle.tree_text.proofs.Cited.{two_printed, part_failed}
use Rattle.rank_text.proofs.print.print_rank.Goals as goal

pub returns-in_err-put_front-clause-prints : goal.returns-in_err-put_front-clause-prints
returns-in_err-put_front-clause-prints g c =
    let e = err_from_is_err_and c.from_residual.result c.from_residual.ensures.1 in
    rw (e.1, e.2) (part_failed _ _ _ _ _ c.in_err-put_front.ensures.prints)

pub returns-in_err-put_distinct-clause-prints : goal.returns-in_err-put_distinct-clause-prints
returns-in_err-put_distinct-clause-prints g c =
    let e =
    err_from_is_err_and c.from_residual-in_err-put_distinct.result
    c.from_residual-in_err-put_distinct.ensures.1 in
    rw (e.1, e.2)
    (two_printed _ _ _ _ _ _ c.put_front.ensures.later c.in_ok-put_front.ensures.prints
    (part_failed _ _ _ _ _ (rw c.is_distinct.ensures at c.in_err-put_distinct.ensures.prints)))

pub returns-clause-prints : goal.returns-clause-prints
returns-clause-prints g c =
    two_printed _ _ _ _ _ _ c.put_front.ensures.later c.in_ok-put_front.ensures.prints
    (two_printed _ _ _ _ _ _ c.put_distinct.ensures.later
    (rw c.is_distinct.ensures at c.in_ok-put_distinct.ensures.prints)
    c.put_listed.ensures.prints)
