use Rattle.std.proofs.Common.{◌≡◌, take}
use Rattle.pns_problem.proofs.exclusion.copy_exclusions.Given as goal

abbrev pub invariant-copying : goal.invariant-copying
invariant-copying l = l.copies.items ≡ take l.exclusion-index l.exclusions
