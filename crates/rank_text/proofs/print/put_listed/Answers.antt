use Rattle.std.proofs.lemmas.Result.{err_from_is_err_and}
use Rattle.tree_text.proofs.Cited.{two_printed, part_failed}
use Rattle.rank_text.proofs.print.put_listed.Goals as goal

pub returns-in_err-put_count-clause-prints : goal.returns-in_err-put_count-clause-prints
returns-in_err-put_count-clause-prints g c =
    let e = err_from_is_err_and c.from_residual.result c.from_residual.ensures.1 in
    rw (e.1, e.2)
    (part_failed _ _ _ _ _ (rw c.networks.ensures at c.in_err-put_count.ensures.prints))

pub returns-in_err-put_networks-clause-prints : goal.returns-in_err-put_networks-clause-prints
returns-in_err-put_networks-clause-prints g c =
    let e =
    err_from_is_err_and c.from_residual-in_err-put_networks.result
    c.from_residual-in_err-put_networks.ensures.1 in
    rw (e.1, e.2)
    (two_printed _ _ _ _ _ _ c.put_count.ensures.later
    (rw c.networks.ensures at c.in_ok-put_count.ensures.prints)
    (part_failed _ _ _ _ _ (rw c.networks-2.ensures at c.in_err-put_networks.ensures.prints)))

pub returns-in_err-put_nodes-clause-prints : goal.returns-in_err-put_nodes-clause-prints
returns-in_err-put_nodes-clause-prints g c =
    let e =
    err_from_is_err_and c.from_residual-in_err-put_nodes.result
    c.from_residual-in_err-put_nodes.ensures.1 in
    rw (e.1, e.2)
    (two_printed _ _ _ _ _ _ c.put_count.ensures.later
    (rw c.networks.ensures at c.in_ok-put_count.ensures.prints)
    (two_printed _ _ _ _ _ _ c.put_networks.ensures.later
    (rw c.networks-2.ensures at c.in_ok-put_networks.ensures.prints)
    (part_failed _ _ _ _ _
    (rw (
      c.marks.ensures,
      c.nodes.ensures,
      c.tree.ensures,
    ) at c.in_err-put_nodes.ensures.prints))))

pub returns-clause-prints : goal.returns-clause-prints
returns-clause-prints g c =
    two_printed _ _ _ _ _ _ c.put_count.ensures.later
    (rw c.networks.ensures at c.in_ok-put_count.ensures.prints)
    (two_printed _ _ _ _ _ _ c.put_networks.ensures.later
    (rw c.networks-2.ensures at c.in_ok-put_networks.ensures.prints)
    (two_printed _ _ _ _ _ _ c.put_nodes.ensures.later
    (rw (c.marks.ensures, c.nodes.ensures, c.tree.ensures) at c.in_ok-put_nodes.ensures.prints)
    (rw c.tail.ensures at c.print_tail.ensures.prints)))
