use Rattle.std.proofs.Common.{◌≡◌, subst, rules, ℤ, SFits, to_z, of_z}
use Rattle.std.specs.Prelude.{IfOk}
use Rattle.std.specs.Int.{w64}
use Rattle.std.proofs.lemmas.Int.{to_z-of_z}
use Rattle.stability_laws.specs.report_rules.Spot.{value_at, value_on}
use Rattle.stability.specs.Refusal.{IsProbed}
use Rattle.stability.proofs.case.Case.probe_at.Goals as goal

pub returns-clause-probed : goal.returns-clause-probed
returns-clause-probed g c =
    let k = c.args.self.now in
    let fits : SFits w64 c.value.result = search rules in
    let at : to_z w64 (of_z w64 c.value.result)
    ≡ value_on c.args.side (value_at k.problem k.spot) c.args.away =
    simp to_z-of_z c.value.ensures in
    subst
    (λ (v : ℤ). IfOk c.probe.result
    (IsProbed k.problem k.spot k.network v)) at c.probe.ensures.probed
