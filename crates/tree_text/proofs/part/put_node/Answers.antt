use Rattle.std.proofs.Common.{refl}
use Rattle.tree_text.proofs.Printed.{both_put, first_failed}
use Rattle.tree_text.proofs.part.put_node.Goals as goal

pub returns-in_err-put_head : goal.returns-in_err-put_head
returns-in_err-put_head g c =
    rw (← c.node.view_is, ← c.steps.ensures)
    (first_failed _ c.in_err-put_head.ensures c.from_residual.ensures.1 refl)

pub returns : goal.returns
returns g c =
    rw (← c.node.view_is, ← c.steps.ensures)
    (both_put c.in_ok-put_head.ensures c.put_end.ensures refl)
