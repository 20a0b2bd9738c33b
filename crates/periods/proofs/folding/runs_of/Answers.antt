use Rattle.std.proofs.Common.{◌≡◌, ◌+◌, ◌*◌, ◌∙◌, [], ap, arith}
use Rattle.plan_laws.proofs.Cited.{made_more}
use Rattle.plan_laws.specs.plan_rules.Folded.{run_from}
use Rattle.periods.proofs.DesignsTaken.{within_limit}
use Rattle.periods.proofs.folding.runs_of.Goals as goal

pub overflow_mul-before : goal.overflow_mul-before
overflow_mul-before c = let few =
    within_limit c.args.units c.running.t c.args.periods c.running-test.true c.requires.few in
    omega (arith, few)

pub overflow_add-first : goal.overflow_add-first
overflow_add-first c = let few =
    within_limit c.args.units c.running.t c.args.periods c.running-test.true c.requires.few in
    omega (arith, few)

pub run_from-requires-clause-few : goal.run_from-requires-clause-few
run_from-requires-clause-few c = let few =
    within_limit c.args.units c.running.t c.args.periods c.running-test.true c.requires.few in
    omega (arith, few)

pub running-preserved : goal.running-preserved
running-preserved c =
    made_more (λ t. run_from c.args.network.now (c.args.units + t * c.args.units + 0) c.args.units)
    [] _ _ c.running.t _ c.running.invariant
    (c.in_ok-run_from.ensures ∙ ap (λ k. run_from c.args.network.now k c.args.units) (omega arith))
    c.in_ok-push.ensures.items
