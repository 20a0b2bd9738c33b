use Rattle.std.proofs.Common.{◌≡◌, ◌∙◌, ap}
use Rattle.report_rules.specs.number_sets.Sets.{has}
use Rattle.report_rules.specs.Number.{Number, plus, sum_from}
use Rattle.report_rules.specs.Amounts.{amount}
use Rattle.report_amounts.proofs.Walk.{all_within, next_within, rest_within}
use Rattle.report_amounts.proofs.Sums.{next_sum, last_sum}
use Rattle.report_amounts.proofs.amounts.unit_sum.Goals as goal

pub loop-u-init : goal.loop-u-init
loop-u-init c =
    let w = c.args.network.now in
    let are : c.into_iter-u-iterator.result ≡ w.units =
    c.into_iter-u-iterator.ensures.into_iter_gives.0 ∙ c.units-u-items.ensures in
    record {
      within = all_within c.into_iter-u-iterator.result w.units are;
      sum =
          λ i. sum_from (c.nothing-sum.ensures i) (amount c.args.what c.args.problem.now w) (are i);
    }

pub returns : goal.returns
returns c =
    last_sum (amount c.args.what c.args.problem.now c.args.network.now) c.loop-u.u-iterator
    c.loop-u.sum _ c.in-None.ensures.steps.0 c.loop-u.invariant.sum

pub amount-requires : goal.amount-requires
amount-requires c =
    c.requires c.in-Some.u
    (next_within (has c.args.network.now.units) c.loop-u.u-iterator c.next.new.self c.in-Some.u
    c.in-Some.ensures.steps c.loop-u.invariant.within)

pub loop-u-preserved : goal.loop-u-preserved
loop-u-preserved c = record {
  within =
      rest_within (has c.args.network.now.units) c.loop-u.u-iterator c.next.new.self c.in-Some.u
      c.in-Some.ensures.steps c.loop-u.invariant.within;
  sum =
      next_sum (amount c.args.what c.args.problem.now c.args.network.now) c.loop-u.u-iterator
      c.next.new.self c.in-Some.u c.loop-u.sum c.plus-sum.result _ c.in-Some.ensures.steps
      (c.plus-sum.ensures ∙ ap (λ (n : Number). plus c.loop-u.sum n) c.amount.ensures)
      c.loop-u.invariant.sum;
}
