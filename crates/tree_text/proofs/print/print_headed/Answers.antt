use Rattle.std.proofs.Common.{refl}
use Rattle.tree_text.proofs.Printed.{both_put, first_failed}
use Rattle.tree_text.proofs.print.print_headed.Goals as goal

pub returns-in_err-put-clause-prints : goal.returns-in_err-put-clause-prints
returns-in_err-put-clause-prints g c =
    (first_failed _ c.in_err-put.ensures c.from_residual.ensures.1 refl).prints

pub returns-clause-prints : goal.returns-clause-prints
returns-clause-prints g c = (both_put c.in_ok-put.ensures c.put_headed.ensures refl).prints
