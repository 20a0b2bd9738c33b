use Rattle.std.proofs.Common.{◌≡◌, subst, arith, Option}
use Rattle.node_evaluation.specs.declared.looks.Ready.{Ready}
use Rattle.abb_search.specs.Closing.{IsToldOf}
use Rattle.abb_search.proofs.ClosingLemmas.{TellsAt, below_first, below_next}
use Rattle.abb_search.proofs.closing.tell_leaves.Goals as goal

pub leaves-init : goal.leaves-init
leaves-init c =
    below_first (TellsAt c.args.growing.now) c.new-told.result.items c.new-told.ensures.items

pub hand_at-requires : goal.hand_at-requires
hand_at-requires c = let t = c.leaves-test.true in let n = c.requires in omega (arith, t, n)

pub leaves-preserved : goal.leaves-preserved
leaves-preserved c =
    below_next (TellsAt c.args.growing.now) c.leaves.told.items c.push.new.self.items
    c.in_ok-one.one c.leaves.leaf c.leaves.invariant
    (subst (λ (o : Option Ready). IsToldOf o c.in_ok-one.one) c.hand_at.ensures
    c.in_ok-one.ensures) c.in_ok-push.ensures.items

pub returns : goal.returns
returns c =
    λ j lt. c.leaves.invariant.1 j (let t = c.leaves-test.false in let n =
    c.requires in omega (arith, lt, t, n))
