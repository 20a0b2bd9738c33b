use Rattle.std.proofs.Common.{◌∷◌, []}
use Rattle.std.proofs.lemmas.Result.{err_from_is_err_and}
use Rattle.rank_check.specs.rank_rules.Spelling.{file_type}
use Rattle.tree_text.proofs.Cited.{two_printed, part_failed}
use Rattle.rank_text.proofs.print.put_front.Goals as goal

pub returns-in_err-put_line-clause-prints : goal.returns-in_err-put_line-clause-prints
returns-in_err-put_line-clause-prints g c =
    let e = err_from_is_err_and c.from_residual.result c.from_residual.ensures.1 in
    rw (e.1, e.2)
    (part_failed _ _ _ _ _
    (c.in_err-put_line.ensures.prints (file_type ∷ []) c.begin-made.ensures))

pub returns-clause-prints : goal.returns-clause-prints
returns-clause-prints g c =
    two_printed _ _ _ _ _ _ c.put_line.ensures.later
    (c.in_ok-put_line.ensures.prints (file_type ∷ []) c.begin-made.ensures)
    (rw c.count.ensures at c.put_count.ensures.prints)
