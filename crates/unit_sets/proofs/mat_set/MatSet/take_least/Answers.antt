use Rattle.std.proofs.Common.{subst}
use Rattle.number_sets.specs.Sets.{IsSet}
use Rattle.unit_sets.proofs.HalfLemmas.{IsSet-halves}
use Rattle.unit_sets.proofs.mat_set.MatSet.take_least.Goals as goal

pub returns-in-Some-clause-rises : goal.returns-in-Some-clause-rises
returns-in-Some-clause-rises c =
    subst (IsSet 256) c.self.view_is
    (IsSet-halves c.self.inside.low c.self.inside.high c.self.invariant)

pub returns-in-Some-clause-left : goal.returns-in-Some-clause-left
returns-in-Some-clause-left c =
    IsSet-halves c.take_least.new.self c.self.inside.high
    record { low = c.in-Some.ensures.left; high = c.self.invariant.high }

pub returns-clause-rises : goal.returns-clause-rises
returns-clause-rises c =
    subst (IsSet 256) c.self.view_is
    (IsSet-halves c.self.inside.low c.self.inside.high c.self.invariant)

pub returns-clause-left : goal.returns-clause-left
returns-clause-left c =
    IsSet-halves c.take_least.new.self c.take_least-2.new.self
    record { low = c.in_default.ensures.left; high = c.in_ok-x.ensures.left }
