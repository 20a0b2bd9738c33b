use Rattle.std.proofs.Common.{◌≡◌, sym, ap, ◌∙◌, subst, rules, ℤ, SFits, to_z, of_z}
use Rattle.std.specs.Prelude.{IfOk}
use Rattle.std.specs.Int.{w64}
use Rattle.std.proofs.lemmas.Int.{to_z-of_z}
use Rattle.stability_laws.specs.problem_rules.Problem.{Problem}
use Rattle.stability_laws.specs.tree_rules.Claim.{Network, IsFeasible}
use Rattle.stability_laws.specs.report_rules.Spot.{value_at, valued}
use Rattle.stability.specs.Refusal.{IsProbed}
use Rattle.stability.proofs.case.Case.probe_now.Goals as goal

pub search-requires-clause-passes : goal.search-requires-clause-passes
search-requires-clause-passes g c =
    let k = c.args.self.now in
    let fits : SFits w64 c.value_now.result = search rules in
    let at : to_z w64 (of_z w64 c.value_now.result) ≡ value_at k.problem k.spot =
    simp to_z-of_z c.value_now.ensures in
    let same : k.problem ≡ valued k.problem k.spot (to_z w64 (of_z w64 c.value_now.result)) =
    sym (ap (λ (v : ℤ). valued k.problem k.spot v) at
    ∙ c.present_stays.ensures.same k.problem k.spot) in
    subst (λ (q : Problem). IsFeasible q c.in-Ok.network) same
    (subst (λ (w : Network). IsFeasible k.problem w) (sym c.in-Ok.ensures)
    c.is_known.ensures.feasible)

pub returns-in-Ok-clause-probed : goal.returns-in-Ok-clause-probed
returns-in-Ok-clause-probed g c =
    let k = c.args.self.now in
    let fits : SFits w64 c.value_now.result = search rules in
    let at : to_z w64 (of_z w64 c.value_now.result) ≡ value_at k.problem k.spot =
    simp to_z-of_z c.value_now.ensures in
    subst
    (λ (v : ℤ). IfOk c.search.result
    (IsProbed k.problem k.spot k.network v)) at c.search.ensures.probed
