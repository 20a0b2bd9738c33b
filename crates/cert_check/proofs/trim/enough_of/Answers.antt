use Rattle.std.proofs.Common.{◌∙◌, ℤ, pos, ◌<ℤ◌, SFits, rules, sym, subst}
use Rattle.std.specs.Int.{w64, w128}
use Rattle.std.proofs.lemmas.Int.{to_z-of_z}
use Rattle.tree_text_rules.specs.flow_rules.Charge.{rounded_up}
use Rattle.cert_check.proofs.trim.enough_of.Goals as goal

pub rounded_up-requires-clause-positive : goal.rounded_up-requires-clause-positive
rounded_up-requires-clause-positive c =
    let r : SFits w64 c.rate_of-rate.result = search rules in
    simp to_z-of_z
    (subst (λ (z : ℤ). pos 0 <ℤ z) (sym c.rate_of-rate.ensures.value) c.requires.makes)

pub returns : goal.returns
returns c =
    let r : SFits w64 c.rate_of-rate.result = search rules in
    let s : SFits w128 c.useful_there-useful.result = search rules in
    let t : SFits w128 c.rounded_up.result = search rules in
    let e = simp to_z-of_z at c.rounded_up.ensures in
    simp to_z-of_z
    (e
    ∙ (λ i. rounded_up (c.useful_there-useful.ensures.value i) (c.rate_of-rate.ensures.value i)))
