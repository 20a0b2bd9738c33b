use Rattle.std.proofs.Common.{◌≡◌, ℤ, ◌+ℤ◌, ◌*ℤ◌, ◌∙◌, subst, rules, SFits, to_z, of_z}
use Rattle.std.specs.Prelude.{IfSome}
use Rattle.std.specs.Int.{w128}
use Rattle.std.proofs.lemmas.Int.{to_z-of_z}
use Rattle.stability_laws.specs.report_rules.Rise.{least_rise}
use Rattle.stability.specs.Case.{Case}
use Rattle.stability.proofs.RiseLemmas.{some_is}
use Rattle.stability.proofs.case.Case.least_cost.Goals as goal

pub returns : goal.returns
returns c =
    let p = c.self.inside.problem.now in
    let w = c.self.inside.network.now in
    let least : ℤ = least_rise p c.self.inside.spot c.args.side in
    let more : ℤ = c.in-Some.more in
    let fr : SFits w128 c.least_rise-rise.result = search rules in
    let fd : SFits w128 c.d.result = search rules in
    let fc : SFits w128 c.cost.result = search rules in
    let fm : SFits w128 c.in-Some.more = search rules in
    let h = simp to_z-of_z at c.in-Some.ensures in
    let rises : c.least_rise-rise.result *ℤ c.d.result ≡ least *ℤ w.d =
    λ i. c.least_rise-rise.ensures i *ℤ c.d.ensures i in
    let product : more ≡ least *ℤ w.d = h.1 ∙ rises in
    let bits : to_z w128 (of_z w128 c.cost.result) +ℤ to_z w128 (of_z w128 more)
    ≡ c.cost.result +ℤ more = simp to_z-of_z in
    let sum : c.cost.result +ℤ more ≡ w.cost +ℤ least *ℤ w.d = λ i. c.cost.ensures i +ℤ product i in
    subst
    (λ (k : Case). IfSome c.checked_sum.result
    (λ z. z ≡ k.network.cost +ℤ least_rise k.problem k.spot c.args.side *ℤ k.network.d))
    c.self.view_is
    (some_is _ c.checked_sum.result
    (to_z w128 (of_z w128 c.cost.result) +ℤ to_z w128 (of_z w128 more)) (w.cost +ℤ least *ℤ w.d)
    c.checked_sum.ensures (bits ∙ sum))
