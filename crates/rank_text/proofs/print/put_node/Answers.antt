use Rattle.std.proofs.lemmas.Result.{err_from_is_err_and}
use Rattle.tree_text.proofs.Cited.{two_printed, part_failed}
use Rattle.rank_text.proofs.print.put_node.Goals as goal

pub returns-in_err-print_head-clause-prints : goal.returns-in_err-print_head-clause-prints
returns-in_err-print_head-clause-prints g c =
    let e = err_from_is_err_and c.from_residual.result c.from_residual.ensures.1 in
    rw (e.1, e.2, ← c.node.view_is)
    (part_failed _ _ _ _ _ (rw c.steps.ensures at c.in_err-print_head.ensures.prints))

pub returns-clause-prints : goal.returns-clause-prints
returns-clause-prints g c =
    rw (← c.node.view_is)
    (two_printed _ _ _ _ _ _ c.print_head.ensures.later
    (rw c.steps.ensures at c.in_ok-print_head.ensures.prints) c.put_end.ensures.prints)
