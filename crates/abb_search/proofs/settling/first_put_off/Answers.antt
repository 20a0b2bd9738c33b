use Rattle.std.proofs.Common.{sym, ◌∙◌, arith}
use Rattle.abb_search.proofs.SettleLemmas.{put_off_is_waiting, are_settled}
use Rattle.abb_search.proofs.settling.first_put_off.Goals as goal

pub is_put_off-requires : goal.is_put_off-requires
is_put_off-requires c = let t = c.leaves-test.true in let n =
    c.requires.counted in omega (arith, t, n)

pub returns-then-is_put_off-clause-some : goal.returns-then-is_put_off-clause-some
returns-then-is_put_off-clause-some c =
    put_off_is_waiting c.args.growing.now c.requires.open c.leaves.leaf
    (let t = c.leaves-test.true in let n = c.requires.counted in omega (arith, t, n))
    (sym c.is_put_off.ensures ∙ c.if-is_put_off.true)

pub returns-clause-none : goal.returns-clause-none
returns-clause-none c =
    are_settled c.args.growing.now
    (λ j lt. c.leaves.invariant j (let t = c.leaves-test.false in let n =
    c.requires.counted in omega (arith, lt, t, n)))
