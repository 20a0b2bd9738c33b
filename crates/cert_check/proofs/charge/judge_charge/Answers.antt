use Rattle.std.proofs.Common.{sym, subst, rules, SFits}
use Rattle.std.specs.Int.{w128}
use Rattle.std.proofs.lemmas.Bool.{both_ways}
use Rattle.std.proofs.lemmas.Int.{to_z-of_z}
use Rattle.tree_text_rules.specs.pns_rules.Shape.{Shape}
use Rattle.charges.specs.pgraph.View.{node_of}
use Rattle.tree_text_rules.specs.flow_rules.ChargeLeaf.{CoversPass}
use Rattle.charges.specs.Known.{facts_of}
use Rattle.cert_check.specs.Shown.{cost_over, handed}
use Rattle.cert_check.proofs.ChargeLemmas.{scale_fails, rows_fail, covers_fail, sum_fails}
use Rattle.cert_check.proofs.ChargeLemmas.{charge_fails, charge_passes}
use Rattle.cert_check.proofs.charge.judge_charge.Goals as goal

pub returns-then-not-is_charge_scale-clause-fails :
    goal.returns-then-not-is_charge_scale-clause-fails
returns-then-not-is_charge_scale-clause-fails c =
    let fits : SFits w128 c.args.charge.now.d = search rules in
    let scale = simp to_z-of_z at c.is_charge_scale.ensures in
    let f = facts_of c.args.facts.now in
    let h = handed c.args.charge.now.d c.args.charge.now.ys.now c.args.charge.now.covers.now in
    scale_fails c.args.site.now (cost_over c.args.claimed) (node_of c.args.node.now) f h
    (λ s. both_ways c.is_charge_scale.result c.if-not-is_charge_scale.true
    (scale.1 s))

pub returns-then-not-is_one_each-clause-fails : goal.returns-then-not-is_one_each-clause-fails
returns-then-not-is_one_each-clause-fails c =
    let f = facts_of c.args.facts.now in
    let h = handed c.args.charge.now.d c.args.charge.now.ys.now c.args.charge.now.covers.now in
    rows_fail c.args.site.now (cost_over c.args.claimed) (node_of c.args.node.now) f h
    (λ e. both_ways c.is_one_each.result c.if-not-is_one_each.true (c.is_one_each.ensures.1 e))

pub returns-then-not-all_pass-clause-fails : goal.returns-then-not-all_pass-clause-fails
returns-then-not-all_pass-clause-fails c =
    let fits : SFits w128 c.args.charge.now.d = search rules in
    let scale = simp to_z-of_z at c.is_charge_scale.ensures in
    let f = facts_of c.args.facts.now in
    let h = handed c.args.charge.now.d c.args.charge.now.ys.now c.args.charge.now.covers.now in
    let n = node_of c.args.node.now in
    covers_fail c.args.site.now (cost_over c.args.claimed) n f h
    (scale.0 c.if-not-is_charge_scale.false)
    (c.is_one_each.ensures.0 c.if-not-is_one_each.false)
    (λ q. both_ways c.all_pass.result c.if-not-all_pass.true
    (c.all_pass.ensures.1
    (subst (λ (g : Shape). CoversPass g n h.covers) (sym c.graph.ensures.same) q)))

pub returns-in_default-clause-fails : goal.returns-in_default-clause-fails
returns-in_default-clause-fails c =
    let fits : SFits w128 c.args.charge.now.d = search rules in
    let scale = simp to_z-of_z at c.is_charge_scale.ensures in
    let f = facts_of c.args.facts.now in
    let h = handed c.args.charge.now.d c.args.charge.now.ys.now c.args.charge.now.covers.now in
    let n = node_of c.args.node.now in
    sum_fails c.args.site.now (cost_over c.args.claimed) n f h
    (scale.0 c.if-not-is_charge_scale.false)
    (c.is_one_each.ensures.0 c.if-not-is_one_each.false)
    (subst (λ (g : Shape). CoversPass g n h.covers) c.graph.ensures.same
    (c.all_pass.ensures.0 c.if-not-all_pass.false))
    c.in_default.ensures.past

pub returns-then-reaches-clause-passes : goal.returns-then-reaches-clause-passes
returns-then-reaches-clause-passes c =
    let fits : SFits w128 c.args.charge.now.d = search rules in
    let scale = simp to_z-of_z at c.is_charge_scale.ensures in
    let sum_fits : SFits w128 c.in-Some.sum = search rules in
    let reached = simp to_z-of_z at c.reaches.ensures in
    let f = facts_of c.args.facts.now in
    let h = handed c.args.charge.now.d c.args.charge.now.ys.now c.args.charge.now.covers.now in
    let n = node_of c.args.node.now in
    charge_passes c.args.site.now (cost_over c.args.claimed) n f h
    (scale.0 c.if-not-is_charge_scale.false)
    (c.is_one_each.ensures.0 c.if-not-is_one_each.false)
    (subst (λ (g : Shape). CoversPass g n h.covers) c.graph.ensures.same
    (c.all_pass.ensures.0 c.if-not-all_pass.false))
    c.in-Some.ensures.formed c.in-Some.sum c.in-Some.ensures.value
    (reached.0 c.if-reaches.true)

pub returns-else-reaches-clause-fails : goal.returns-else-reaches-clause-fails
returns-else-reaches-clause-fails c =
    let fits : SFits w128 c.args.charge.now.d = search rules in
    let scale = simp to_z-of_z at c.is_charge_scale.ensures in
    let sum_fits : SFits w128 c.in-Some.sum = search rules in
    let reached = simp to_z-of_z at c.reaches.ensures in
    let f = facts_of c.args.facts.now in
    let h = handed c.args.charge.now.d c.args.charge.now.ys.now c.args.charge.now.covers.now in
    let n = node_of c.args.node.now in
    charge_fails c.args.site.now (cost_over c.args.claimed) n f h
    (scale.0 c.if-not-is_charge_scale.false)
    (c.is_one_each.ensures.0 c.if-not-is_one_each.false)
    (subst (λ (g : Shape). CoversPass g n h.covers) c.graph.ensures.same
    (c.all_pass.ensures.0 c.if-not-all_pass.false))
    c.in-Some.ensures.formed c.in-Some.sum c.in-Some.ensures.value
    (λ r. both_ways c.reaches.result c.if-reaches.false (reached.1 r))
