use Rattle.std.proofs.Common.{◌∷◌, [], codes}
use Rattle.std.proofs.lemmas.Result.{err_from_is_err_and}
use Rattle.tree_text_laws.specs.tree_text_rules.PartSpelling.{file_type, set_line}
use Rattle.tree_text.proofs.Cited.{two_printed, part_failed}
use Rattle.tree_parts.proofs.print.print_part.Goals as goal

pub returns-in_err-put_line-clause-prints : goal.returns-in_err-put_line-clause-prints
returns-in_err-put_line-clause-prints g c =
    let e = err_from_is_err_and c.from_residual.result c.from_residual.ensures.1 in
    rw (e.1, e.2)
    (part_failed _ _ _ _ _
    (c.in_err-put_line.ensures.prints (file_type ∷ []) c.begin-made.ensures))

pub returns-in_err-put_line-2-clause-prints : goal.returns-in_err-put_line-2-clause-prints
returns-in_err-put_line-2-clause-prints g c =
    let e =
    err_from_is_err_and c.from_residual-in_err-put_line-2.result
    c.from_residual-in_err-put_line-2.ensures.1 in
    let inside = rw c.start-node.ensures.inside at c.set_line-made.ensures in
    rw (e.1, e.2)
    (two_printed _ _ _ _ _ _ c.put_line.ensures.later
    (c.in_ok-put_line.ensures.prints (file_type ∷ []) c.begin-made.ensures)
    (part_failed _ _ _ _ _
    (c.in_err-put_line-2.ensures.prints (set_line (codes "inside") c.args.part.now.inside)
    inside)))

pub returns-in_err-put_line-3-clause-prints : goal.returns-in_err-put_line-3-clause-prints
returns-in_err-put_line-3-clause-prints g c =
    let e =
    err_from_is_err_and c.from_residual-in_err-put_line-3.result
    c.from_residual-in_err-put_line-3.ensures.1 in
    let inside = rw c.start-node.ensures.inside at c.set_line-made.ensures in
    let outside = rw c.start-node.ensures.outside at c.set_line-made-2.ensures in
    rw (e.1, e.2)
    (two_printed _ _ _ _ _ _ c.put_line.ensures.later
    (c.in_ok-put_line.ensures.prints (file_type ∷ []) c.begin-made.ensures)
    (two_printed _ _ _ _ _ _ c.put_line-2.ensures.later
    (c.in_ok-put_line-2.ensures.prints (set_line (codes "inside") c.args.part.now.inside)
    inside)
    (part_failed _ _ _ _ _
    (c.in_err-put_line-3.ensures.prints (set_line (codes "outside") c.args.part.now.outside)
    outside))))

pub returns-clause-prints : goal.returns-clause-prints
returns-clause-prints g c =
    let inside = rw c.start-node.ensures.inside at c.set_line-made.ensures in
    let outside = rw c.start-node.ensures.outside at c.set_line-made-2.ensures in
    two_printed _ _ _ _ _ _ c.put_line.ensures.later
    (c.in_ok-put_line.ensures.prints (file_type ∷ []) c.begin-made.ensures)
    (two_printed _ _ _ _ _ _ c.put_line-2.ensures.later
    (c.in_ok-put_line-2.ensures.prints (set_line (codes "inside") c.args.part.now.inside)
    inside)
    (two_printed _ _ _ _ _ _ c.put_line-3.ensures.later
    (c.in_ok-put_line-3.ensures.prints (set_line (codes "outside") c.args.part.now.outside)
    outside)
    (rw (c.claim.ensures, c.tree.ensures, c.tail.ensures) at c.print_rest.ensures.prints)))
