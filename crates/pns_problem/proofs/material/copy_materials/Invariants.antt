use Rattle.std.proofs.Common.{◌≡◌, take}
use Rattle.pns_problem.proofs.material.copy_materials.Given as goal

abbrev pub invariant-copying : goal.invariant-copying
invariant-copying l = l.copies.items ≡ take l.material-index l.materials
