use Rattle.std.proofs.Common.{refl}
use Rattle.tree_text.proofs.Printed.{both_put, first_failed}
use Rattle.tree_text.proofs.part.put_place.Goals as goal

pub returns-in_err-put : goal.returns-in_err-put
returns-in_err-put g c = first_failed _ c.in_err-put.ensures c.from_residual.ensures.1 refl

pub returns : goal.returns
returns g c = both_put c.in_ok-put.ensures c.put-2.ensures refl
