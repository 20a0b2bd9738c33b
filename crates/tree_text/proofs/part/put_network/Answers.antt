use Rattle.std.proofs.Common.{SFits, rules, refl}
use Rattle.std.specs.Int.{w128}
use Rattle.std.proofs.lemmas.Int.{to_z-of_z}
use Rattle.tree_text.proofs.Printed.{both_put, first_failed}
use Rattle.tree_text.proofs.part.put_network.Goals as goal

pub returns-in_err-put : goal.returns-in_err-put
returns-in_err-put g c =
    rw (← c.units.ensures) (first_failed _ c.in_err-put.ensures c.from_residual.ensures.1 refl)

pub returns-in_err-put-2 : goal.returns-in_err-put-2
returns-in_err-put-2 g c =
    let d : SFits w128 c.d.result = search rules in
    rw (← c.units.ensures, ← c.d.ensures, ← c.sizes.ensures)
    (both_put c.in_ok-put.ensures
    (first_failed _ (simp to_z-of_z at c.in_err-put-2.ensures)
    c.from_residual-in_err-put-2.ensures.1 refl) refl)

pub returns : goal.returns
returns g c =
    let d : SFits w128 c.d.result = search rules in
    let cost : SFits w128 c.cost.result = search rules in
    rw (← c.units.ensures, ← c.d.ensures, ← c.sizes.ensures, ← c.cost.ensures)
    (both_put c.in_ok-put.ensures
    (both_put (simp to_z-of_z at c.in_ok-put-2.ensures) (simp to_z-of_z at c.put-3.ensures)
    refl) refl)
