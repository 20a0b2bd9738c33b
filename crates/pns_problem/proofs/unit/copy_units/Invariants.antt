use Rattle.std.proofs.Common.{◌≡◌, take}
use Rattle.pns_problem.proofs.unit.copy_units.Given as goal

abbrev pub invariant-copying : goal.invariant-copying
invariant-copying l = l.copies.items ≡ take l.unit-index l.units
