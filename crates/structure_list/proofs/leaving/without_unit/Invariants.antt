use Rattle.std.proofs.Common.{◌+◌, ◌*◌, length}
use Rattle.pgraph.specs.number_sets.Sets.{has}
use Rattle.pgraph.specs.Tables.{shape}
use Rattle.structure_list.proofs.LeavingLemmas.{IsLeaving}
use Rattle.structure_list.proofs.leaving.without_unit.Given as goal

abbrev pub invariant-leave : goal.invariant-leave
invariant-leave l = IsLeaving (shape l.graph) (has l.fn.wanted) (has l.fn.kept) l.fn.u (has
    l.left) (has l.waiting)

abbrev pub decreases-leave : goal.decreases-leave
decreases-leave l = 257 * length l.left + length l.waiting
