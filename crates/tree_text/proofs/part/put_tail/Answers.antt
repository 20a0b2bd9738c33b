use Rattle.std.proofs.Common.{refl}
use Rattle.tree_text.proofs.Printed.{both_put, first_failed}
use Rattle.tree_text.proofs.part.put_tail.Goals as goal

pub returns-in_err-put-in-Spent : goal.returns-in_err-put-in-Spent
returns-in_err-put-in-Spent g c =
    rw (c.in-Spent.is) (first_failed _ c.in_err-put-in-Spent.ensures c.from_residual.ensures.1 refl)

pub returns-in_ok-put-in-Spent : goal.returns-in_ok-put-in-Spent
returns-in_ok-put-in-Spent g c =
    rw (c.in-Spent.is) (both_put c.in_ok-put-in-Spent.ensures c.put-in-Spent-2.ensures refl)

pub returns-in_err-put-in-Past : goal.returns-in_err-put-in-Past
returns-in_err-put-in-Past g c =
    rw (c.in-Past.is)
    (first_failed _ c.in_err-put-in-Past.ensures c.from_residual-in_err-put-in-Past.ensures.1 refl)

pub returns-in_err-put_place-in-Past : goal.returns-in_err-put_place-in-Past
returns-in_err-put_place-in-Past g c =
    rw (c.in-Past.is, ← c.columns.ensures)
    (both_put c.in_ok-put-in-Past.ensures
    (first_failed _ c.in_err-put_place-in-Past.ensures
    c.from_residual-in_err-put_place-in-Past.ensures.1 refl) refl)

pub returns-in_ok-put_place-in-Past : goal.returns-in_ok-put_place-in-Past
returns-in_ok-put_place-in-Past g c =
    rw (c.in-Past.is, ← c.columns.ensures)
    (both_put c.in_ok-put-in-Past.ensures
    (both_put c.in_ok-put_place-in-Past.ensures c.put-in-Past-2.ensures refl) refl)
