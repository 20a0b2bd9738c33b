use Rattle.std.proofs.Common.{◌≡◌, ◌≤◌, ◌<◌, ◌+◌, ◌*◌, ◌∙◌, ℕ, List, map, length, nat_lt, sym, ap}
use Rattle.std.proofs.Common.{ap₂, subst, arith, SFits, rules}
use Rattle.std.specs.Int.{w128}
use Rattle.std.specs.List.{range_with_len}
use Rattle.std.proofs.lemmas.Int.{to_z-of_z}
use Rattle.std.proofs.lemmas.Bool.{or_parts, ltb-false}
use Rattle.plan_laws.specs.plan_rules.Folded.{Run, run_from, run_in}
use Rattle.periods.proofs.folding.fold.Goals as goal

pub runs_of-requires-clause-few : goal.runs_of-requires-clause-few
runs_of-requires-clause-few c =
    let n : ℕ = length c.args.problem.now.units in
    let m : ℕ = length c.args.problem.now.materials in
    let t : ℕ = length c.args.plan.now.periods in
    let few =
    ltb-false 128 (n * (t + 1))
    (or_parts (nat_lt 128 (n * (t + 1))) (nat_lt 256 ((m + n) * t + n))
    c.requires.plan.narrow).0 in
    subst (λ k. k * (c.period_count-periods.result + 1) ≤ 128) (sym c.unit_count-units.ensures)
    (subst (λ k. n * (k + 1) ≤ 128) (sym c.period_count-periods.ensures) few)

pub returns : goal.returns
returns c =
    let w = c.args.network.now in
    let d_fits : SFits w128 c.d.result = search rules in
    let cost_fits : SFits w128 c.cost.result = search rules in
    let n = c.unit_count-units.ensures in
    let t = c.period_count-periods.ensures in
    let built = c.built.view_is ∙ (c.in_ok-built.ensures ∙ ap (run_from w 0) n) in
    let runs = c.in_ok-runs.ensures
    ∙ ap₂ (λ (u k : ℕ). map (λ s. run_from w (u + s * u + 0) u) (range_with_len 0 k)) n t in
    simp to_z-of_z
    (λ i. record {
      built = (built i).units;
      capacities = (built i).sizes;
      runs = runs i;
      d =
          c.d.ensures i;
      cost = c.cost.ensures i;
    })
