use Rattle.std.proofs.Common.{◌≡◌, ◌∙◌, ℕ, Bool, false, Result, OnOk, IfErr, ap, subst, sym}
use Rattle.tree_text_rules.specs.number_sets.Sets.{has}
use Rattle.tree_text_rules.specs.pns_rules.Shape.{shape_of}
use Rattle.tree_text_rules.specs.pns_rules.Structure.{IsStructure, IsAllowed}
use Rattle.tree_text_rules.specs.pns_rules.Nodes.{Node}
use Rattle.charges.specs.pgraph.View.{node_of}
use Rattle.tree_text_rules.specs.tree_rules.Claim.{claimed_cost}
use Rattle.tree_text_rules.specs.tree_rules.Accepted.{first_node, Proves, NodeIsFault}
use Rattle.tree_text_rules.specs.tree_rules.Costs.{CostsEnough}
use Rattle.branch_tree.specs.View.{claim_of}
use Rattle.tree_text_rules.specs.tree_rules.declared.refusal.Refusal.{Refusal}
use Rattle.tree_text_rules.specs.tree_rules.declared.refusal.Refusal.TheVariants as refusals
use Rattle.tree_text_rules.specs.tree_rules.Refusals.{Refuses}
use Rattle.cert_check.specs.Refusals.{IsOkOrMemory, IsRefusalOrMemory}
use Rattle.cert_check.proofs.RefusalLemmas.{answer_of, answer_ok, answer_err, answer_or_memory}
use Rattle.cert_check.proofs.RefusalLemmas.{answer_refused, least}
use Rattle.cert_check.proofs.check.check_tree.Goals.{in-Ok, in-Err}
use Rattle.cert_check.proofs.check.check_tree.Goals as goal

pub returns-clause-accepts : goal.returns-clause-accepts
returns-clause-accepts c =
    let p = c.args.site.now in
    let claim = claim_of c.args.claim.now in
    let tree = c.args.tree.now in
    let r = c.check_from.result in
    let start : node_of (record { inside = c.empty.result; outside = c.empty-2.result })
    ≡ first_node =
    λ i. record { inside = has (c.empty.ensures i); outside = has (c.empty-2.ensures i) } in
    let same : c.match-check_from.result ≡ answer_of r =
    elim c.match-check_from.branch [
      | in-Ok w ↦ w.result-is ∙ ap answer_of (sym w.in-Ok.is)
      | in-Err w ↦ w.result-is
          ∙ ap answer_of (sym w.in-Err.is)
    ] in
    λ h. subst IsOkOrMemory (sym same)
    (answer_or_memory r
    (c.check_from.ensures.accepts
    (subst (λ (n : Node). Proves false p n claim tree) (sym start) h)))

pub returns-clause-refused : goal.returns-clause-refused
returns-clause-refused c =
    let p = c.args.site.now in
    let claim = claim_of c.args.claim.now in
    let tree = c.args.tree.now in
    let r = c.check_from.result in
    let start : node_of (record { inside = c.empty.result; outside = c.empty-2.result })
    ≡ first_node =
    λ i. record { inside = has (c.empty.ensures i); outside = has (c.empty-2.ensures i) } in
    let same : c.match-check_from.result ≡ answer_of r =
    elim c.match-check_from.branch [
      | in-Ok w ↦ w.result-is ∙ ap answer_of (sym w.in-Ok.is)
      | in-Err w ↦ w.result-is
          ∙ ap answer_of (sym w.in-Err.is)
    ] in
    let refuses =
    subst (λ (n : Node). IfErr r (Refuses false p n claim tree)) start
    c.check_from.ensures.refuses in
    subst (λ (a : Result (Unit {0}) Refusal). IfErr a (Refuses false p first_node claim tree))
    (sym same) (answer_err (Refuses false p first_node claim tree) r refuses)

pub returns-clause-names_claim : goal.returns-clause-names_claim
returns-clause-names_claim c =
    let p = c.args.site.now in
    let claim = claim_of c.args.claim.now in
    let tree = c.args.tree.now in
    let r = c.check_from.result in
    let start : node_of (record { inside = c.empty.result; outside = c.empty-2.result })
    ≡ first_node =
    λ i. record { inside = has (c.empty.ensures i); outside = has (c.empty-2.ensures i) } in
    let same : c.match-check_from.result ≡ answer_of r =
    elim c.match-check_from.branch [
      | in-Ok w ↦ w.result-is ∙ ap answer_of (sym w.in-Ok.is)
      | in-Err w ↦ w.result-is
          ∙ ap answer_of (sym w.in-Err.is)
    ] in
    λ why h. subst (λ (a : Result (Unit {0}) Refusal). IsRefusalOrMemory (refusals.Claim why) a)
    (sym same) (answer_refused (refusals.Claim why) r (c.check_from.ensures.names_claim why h))

pub returns-clause-names_node : goal.returns-clause-names_node
returns-clause-names_node c =
    let p = c.args.site.now in
    let claim = claim_of c.args.claim.now in
    let tree = c.args.tree.now in
    let r = c.check_from.result in
    let start : node_of (record { inside = c.empty.result; outside = c.empty-2.result })
    ≡ first_node =
    λ i. record { inside = has (c.empty.ensures i); outside = has (c.empty-2.ensures i) } in
    let same : c.match-check_from.result ≡ answer_of r =
    elim c.match-check_from.branch [
      | in-Ok w ↦ w.result-is ∙ ap answer_of (sym w.in-Ok.is)
      | in-Err w ↦ w.result-is
          ∙ ap answer_of (sym w.in-Err.is)
    ] in
    λ k why passes fault. subst
    (λ (a : Result (Unit {0}) Refusal). IsRefusalOrMemory (refusals.Node k why) a) (sym same)
    (answer_refused (refusals.Node k why) r
    (c.check_from.ensures.names_node k why passes
    (subst (λ (n : Node). NodeIsFault false p n claim tree k why) (sym start) fault)))

pub returns-clause-accepted : goal.returns-clause-accepted
returns-clause-accepted c =
    let p = c.args.site.now in
    let claim = claim_of c.args.claim.now in
    let tree = c.args.tree.now in
    let r = c.check_from.result in
    let start : node_of (record { inside = c.empty.result; outside = c.empty-2.result })
    ≡ first_node =
    λ i. record { inside = has (c.empty.ensures i); outside = has (c.empty-2.ensures i) } in
    let same : c.match-check_from.result ≡ answer_of r =
    elim c.match-check_from.branch [
      | in-Ok w ↦ w.result-is ∙ ap answer_of (sym w.in-Ok.is)
      | in-Err w ↦ w.result-is
          ∙ ap answer_of (sym w.in-Err.is)
    ] in
    let proves =
    subst (λ (n : Node). OnOk r (Proves false p n claim tree)) start
    c.check_from.ensures.proves in
    subst (λ (a : Result (Unit {0}) Refusal). OnOk a (Proves false p first_node claim tree))
    (sym same) (answer_ok (Proves false p first_node claim tree) r proves)

pub returns-clause-least : goal.returns-clause-least
returns-clause-least c =
    let p = c.args.site.now in
    let claim = claim_of c.args.claim.now in
    let tree = c.args.tree.now in
    let r = c.check_from.result in
    let start : node_of (record { inside = c.empty.result; outside = c.empty-2.result })
    ≡ first_node =
    λ i. record { inside = has (c.empty.ensures i); outside = has (c.empty-2.ensures i) } in
    let same : c.match-check_from.result ≡ answer_of r =
    elim c.match-check_from.branch [
      | in-Ok w ↦ w.result-is ∙ ap answer_of (sym w.in-Ok.is)
      | in-Err w ↦ w.result-is
          ∙ ap answer_of (sym w.in-Err.is)
    ] in
    let proves =
    subst (λ (n : Node). OnOk r (Proves false p n claim tree)) start
    c.check_from.ensures.proves in
    let P : Type 0 = (s : ℕ → Bool) → IsStructure (shape_of p) s → IsAllowed (shape_of p) s
    → CostsEnough p (claimed_cost claim) s in
    subst (λ (a : Result (Unit {0}) Refusal). OnOk a P) (sym same)
    (answer_ok P r
    (least p claim tree c.accepted_is_optimal.ensures c.problem.ensures.valid r proves))
