use Rattle.std.proofs.Common.{SFits, rules, refl}
use Rattle.std.specs.Int.{w128}
use Rattle.std.proofs.lemmas.Int.{to_z-of_z}
use Rattle.tree_text.proofs.Printed.{both_put, first_failed}
use Rattle.tree_text.proofs.part.put_charge.Goals as goal

pub returns-in_err-put : goal.returns-in_err-put
returns-in_err-put g c =
    let d : SFits w128 c.d.result = search rules in
    rw (← c.d.ensures, ← c.ys.ensures)
    (first_failed _ (simp to_z-of_z at c.in_err-put.ensures) c.from_residual.ensures.1 refl)

pub returns : goal.returns
returns g c =
    let d : SFits w128 c.d.result = search rules in
    rw (← c.d.ensures, ← c.ys.ensures, ← c.covers.ensures)
    (both_put (simp to_z-of_z at c.in_ok-put.ensures) c.put_covers.ensures refl)
