use Rattle.std.proofs.Common.{◌≡◌, subst, arith, List, Option, ℤ}
use Rattle.abb_search.specs.Closing.{refuted_by, AreInRange}
use Rattle.abb_search.proofs.ClosingLemmas.{RefutesAt, below_first, below_next, none_refuted}
use Rattle.abb_search.proofs.closing.shut_refuted.Goals as goal

pub returns-then-not-has_refuted : goal.returns-then-not-has_refuted
returns-then-not-has_refuted c =
    none_refuted c.args.growing.now (c.has_refuted.ensures c.if-not-has_refuted.true)
    c.new-proofs.result.items c.new-proofs.ensures.items

pub leaves-init : goal.leaves-init
leaves-init c =
    below_first (RefutesAt c.args.growing.now) c.new-proofs.result.items c.new-proofs.ensures.items

pub refutation_at-requires : goal.refutation_at-requires
refutation_at-requires c = let t = c.leaves-test.true in let n = c.requires in omega (arith, t, n)

pub leaves-preserved : goal.leaves-preserved
leaves-preserved c =
    below_next (RefutesAt c.args.growing.now) c.leaves.proofs.items c.push.new.self.items
    c.in_ok-shut.shut c.leaves.leaf c.leaves.invariant
    (subst (λ (o : Option (List ℤ)). (c.in_ok-shut.shut ≡ refuted_by o) × AreInRange o)
    c.refutation_at.ensures c.in_ok-shut.ensures) c.in_ok-push.ensures.items

pub returns : goal.returns
returns c =
    λ j lt. c.leaves.invariant.1 j (let t = c.leaves-test.false in let n =
    c.requires in omega (arith, lt, t, n))
