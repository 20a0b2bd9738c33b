use Rattle.std.proofs.Common.{◌≡◌, ◌∙◌, ap, ℕ, List}
use Rattle.report_rules.specs.Number.{Number, plus, sum_from}
use Rattle.report_rules.specs.Marginal.{traded}
use Rattle.report_amounts.proofs.Sums.{next_sum, last_sum}
use Rattle.report_amounts.proofs.marginals.size_worth.Goals as goal

pub loop-j-init : goal.loop-j-init
loop-j-init c =
    let m = c.args.multipliers.now in
    let are : c.into_iter-j-iterator.result ≡ m.rows =
    c.into_iter-j-iterator.ensures.into_iter_gives.0 ∙ c.rows-j-items.ensures in
    λ i. sum_from (c.nothing-sum.ensures i) (traded c.args.problem.now m c.args.u) (are i)

pub returns : goal.returns
returns c =
    last_sum (traded c.args.problem.now c.args.multipliers.now c.args.u) c.loop-j.j-iterator
    c.loop-j.sum _ c.in-None.ensures.steps.0 c.loop-j.invariant

pub loop-j-preserved : goal.loop-j-preserved
loop-j-preserved c =
    next_sum (traded c.args.problem.now c.args.multipliers.now c.args.u) c.loop-j.j-iterator
    c.next.new.self c.in-Some.j c.loop-j.sum c.plus-sum.result _ c.in-Some.ensures.steps
    (c.plus-sum.ensures ∙ ap (λ (n : Number). plus c.loop-j.sum n) c.traded.ensures)
    c.loop-j.invariant
