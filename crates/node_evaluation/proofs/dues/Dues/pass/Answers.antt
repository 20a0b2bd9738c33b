use Rattle.std.proofs.Common.{subst}
use Rattle.structure_list.specs.number_sets.Sets.{IsSet}
use Rattle.node_evaluation.proofs.dues.Dues.pass.Goals as goal

pub bounds-self-u : goal.bounds-self-u
bounds-self-u c = (subst (IsSet 128) c.in-Some.ensures.steps c.loop-u.invariant).below.0

pub loop-u-preserved : goal.loop-u-preserved
loop-u-preserved c =
    let before = subst (IsSet 128) c.in-Some.ensures.steps c.loop-u.invariant in
    record { rising = before.rising.1; below = before.below.1 }
