use Rattle.std.proofs.Common.{subst}
use Rattle.number_sets.specs.Sets.{IsSet}
use Rattle.unit_sets.proofs.HalfLemmas.{IsSet-halves}
use Rattle.unit_sets.proofs.mat_set.MatSet.rises.Goals as goal

pub returns : goal.returns
returns c =
    subst (IsSet 256) c.self.view_is
    (IsSet-halves c.self.inside.low c.self.inside.high c.self.invariant)
