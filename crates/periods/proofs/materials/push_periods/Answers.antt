use Rattle.std.proofs.Common.{◌≡◌, ◌++◌, ap, sym, ◌∙◌, arith}
use Rattle.std.specs.Prelude.{slice_index_or}
use Rattle.plan_laws.proofs.Cited.{blocks_more, same_default}
use Rattle.plan_laws.specs.plan_rules.Expanded.{copies, capacities, period_materials}
use Rattle.plan_laws.specs.plan_rules.Plan.{Period, no_period}
use Rattle.periods.proofs.materials.push_periods.Goals as goal

pub copying-preserved : goal.copying-preserved
copying-preserved c =
    let p = c.args.problem.now in
    let periods = c.args.periods.now in
    let item : c.at-item.result ≡ slice_index_or periods c.copying.t no_period =
    c.at-item.is
    ∙ same_default periods c.copying.at-index c.at-item.result no_period c.copying-test.true
    ∙ ap (λ k. slice_index_or periods k no_period) (sym c.copying.invariant.count) in
    record {
      made =
          blocks_more (period_materials p (record { periods = periods })) _ _ _ c.copying.t
          c.copying.invariant.made
          (c.in_ok-push_period.ensures
          ∙ ap
          (λ (q : Period). c.copying.materials.items
          ++ (copies p q c.copying.t ++ capacities p c.copying.t)) item);
      count = omega (arith, c.copying.invariant.count);
    }
