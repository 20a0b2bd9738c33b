use Rattle.std.proofs.Common.{◌≡◌, ◌≤ℤ◌, ◌<ℤ◌, ◌*ℤ◌, refl, ℤ, pos, sym, ap, ◌∙◌, subst, rules}
use Rattle.std.proofs.Common.{SFits}
use Rattle.std.specs.Int.{w128}
use Rattle.std.proofs.lemmas.Int.{to_z-of_z}
use Rattle.stability_laws.specs.problem_rules.Problem.{Problem}
use Rattle.stability_laws.specs.problem_rules.Validity.{IsValid}
use Rattle.stability_laws.specs.tree_rules.Claim.{Network, CostOver}
use Rattle.stability_laws.specs.report_rules.Spot.{valued}
use Rattle.stability_laws.specs.report_rules.Range.{cost_at, IsLeast, IsCheaper}
use Rattle.stability.proofs.ProbeLemmas.{cheaper_found, best_found}
use Rattle.stability.proofs.case.Case.search.Goals as goal

pub returns-then-is_cheaper-clause-probed : goal.returns-then-is_cheaper-clause-probed
returns-then-is_cheaper-clause-probed g c =
    let k = c.args.self.now in
    let n = c.in-Solved.network in
    let fc : SFits w128 c.cost.result = search rules in
    let fd : SFits w128 c.d.result = search rules in
    let much : CostOver = record { cost = c.cost.result; d = c.d.result } in
    let much_is : much
    ≡ record { cost = cost_at k.problem k.spot k.network c.args.value; d = k.network.d } =
    λ i. record {
      cost = (c.cost.ensures ∙ ap (λ (w : Network). w.cost) c.requires.network) i;
      d = (c.d.ensures ∙ ap (λ (w : Network). w.d) c.requires.network) i;
    } in
    let less : (n.cost *ℤ much.d) <ℤ (much.cost *ℤ n.d) =
    simp to_z-of_z at (c.if-is_cheaper.ensures.0 refl) in
    subst (λ (m : CostOver). IsCheaper (valued k.problem k.spot c.args.value) m n) much_is
    (subst (λ (q : Problem). IsCheaper q much n) c.requires.problem
    (cheaper_found c.accepted_is_optimal.ensures c.accepted_has_flows.ensures
    c.args.desk.now.problem (subst IsValid c.problem.ensures c.is_valid.ensures.valid) much n
    c.in-Solved.tree c.in-Solved.ensures.found c.is_sized.ensures.sized less))

pub returns-in-Solved-clause-probed : goal.returns-in-Solved-clause-probed
returns-in-Solved-clause-probed g c =
    let k = c.args.self.now in
    let n = c.in-Solved.network in
    let fc : SFits w128 c.cost.result = search rules in
    let fd : SFits w128 c.d.result = search rules in
    let much : CostOver = record { cost = c.cost.result; d = c.d.result } in
    let much_is : much
    ≡ record { cost = cost_at k.problem k.spot k.network c.args.value; d = k.network.d } =
    λ i. record {
      cost = (c.cost.ensures ∙ ap (λ (w : Network). w.cost) c.requires.network) i;
      d = (c.d.ensures ∙ ap (λ (w : Network). w.d) c.requires.network) i;
    } in
    let not_less : (((n.cost *ℤ much.d) <ℤ (much.cost *ℤ n.d)) → ⊥) =
    λ (less : (n.cost *ℤ much.d) <ℤ (much.cost *ℤ n.d)). let e =
    c.if-is_cheaper.ensures.1 (simp to_z-of_z less) in cc in
    let positive : pos 1 ≤ℤ much.d =
    subst (λ (d : ℤ). pos 1 ≤ℤ d) (sym c.d.ensures) c.requires.passes.flows.positive in
    subst (λ (m : CostOver). IsLeast (valued k.problem k.spot c.args.value) m) much_is
    (subst (λ (q : Problem). IsLeast q much) c.requires.problem
    (best_found c.accepted_is_optimal.ensures c.accepted_has_flows.ensures c.args.desk.now.problem
    (subst IsValid c.problem.ensures c.is_valid.ensures.valid) much n c.in-Solved.tree positive
    c.in-Solved.ensures.found not_less))
