use Rattle.std.proofs.Common.{◌*◌, ◌+◌, arith}
use Rattle.exact_numbers.proofs.ShareLemmas.{even, odd}
use Rattle.exact_numbers.proofs.multiples.by_digits.Goals as goal
use Rattle.exact_numbers.proofs.multiples.by_digits.Goals.{then-left-eq1+in_ok-sum, else-left-eq1}

pub loop-left-preserved : goal.loop-left-preserved
loop-left-preserved c =
    let i = c.loop-left.invariant in
    let power = c.loop-left.power.whole * c.args.den + c.loop-left.power.rest in
    let sum = c.loop-left.sum.whole * c.args.den + c.loop-left.sum.rest in
    let twice = c.in_ok-power.power.whole * c.args.den + c.in_ok-power.power.rest in
    elim c.if-left-eq1.branch [
      | then-left-eq1+in_ok-sum w ↦ (rw w.sum-is (record {
        sum_below = w.in_ok-sum.ensures.below;
        power_below = c.in_ok-power.ensures.below;
        whole =
            odd c.loop-left.left sum (w.in_ok-sum.sum.whole * c.args.den + w.in_ok-sum.sum.rest)
            power twice (c.args.factor * c.args.rest) w.if-left-eq1.true w.in_ok-sum.ensures.sum
            c.in_ok-power.ensures.sum i.whole;
      }))
      | else-left-eq1 w ↦ (let h = w.if-left-eq1.false in rw w.sum-is (record {
        sum_below = i.sum_below;
        power_below = c.in_ok-power.ensures.below;
        whole =
            even c.loop-left.left sum power twice (c.args.factor * c.args.rest) (omega arith)
            c.in_ok-power.ensures.sum i.whole;
      }))
    ]
