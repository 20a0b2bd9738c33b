use Rattle.std.proofs.Common.{refl}
use Rattle.tree_text.proofs.Printed.{both_put, first_failed}
use Rattle.tree_text.proofs.front.put_headed.Goals as goal

pub returns-in_err-put_claim : goal.returns-in_err-put_claim
returns-in_err-put_claim g c =
    first_failed _ c.in_err-put_claim.ensures c.from_residual.ensures.1 refl

pub returns-in_err-put_front : goal.returns-in_err-put_front
returns-in_err-put_front g c =
    rw (← c.lines.ensures)
    (both_put c.in_ok-put_claim.ensures
    (first_failed _ c.in_err-put_front.ensures c.from_residual-in_err-put_front.ensures.1 refl)
    refl)

pub returns-in_err-put_nodes : goal.returns-in_err-put_nodes
returns-in_err-put_nodes g c =
    rw (← c.lines.ensures, ← c.nodes.ensures)
    (both_put c.in_ok-put_claim.ensures
    (both_put c.in_ok-put_front.ensures
    (first_failed _ c.in_err-put_nodes.ensures c.from_residual-in_err-put_nodes.ensures.1 refl)
    refl) refl)

pub returns : goal.returns
returns g c =
    rw (← c.lines.ensures, ← c.nodes.ensures)
    (both_put c.in_ok-put_claim.ensures
    (both_put c.in_ok-put_front.ensures
    (both_put c.in_ok-put_nodes.ensures c.put_tail.ensures refl) refl) refl)
