use Rattle.std.proofs.Common.{◌≡◌, ◌∙◌, [], ◌∷◌, OnOk, IfErr, ap, subst}
use Rattle.tree_text_rules.specs.problem_rules.Problem.{Problem}
use Rattle.tree_text_rules.specs.flow_rules.Net.{net_of}
use Rattle.tree_text_rules.specs.flow_rules.ChargeFacts.{own_facts}
use Rattle.charges.specs.Known.{facts_of}
use Rattle.tree_text_rules.specs.pns_rules.Shape.{shape_of}
use Rattle.charges.specs.pgraph.View.{node_of}
use Rattle.tree_text_rules.specs.tree_rules.Tree.{Pass}
use Rattle.tree_text_rules.specs.tree_rules.Leaf.{LeafPasses, LeafFails}
use Rattle.tree_text_rules.specs.tree_rules.Accepted.{Tree, Proves}
use Rattle.tree_text_rules.specs.tree_rules.Refusals.{Refuses}
use Rattle.branch_tree.specs.View.{claim_of}
use Rattle.cert_check.specs.Shown.{cost_over}
use Rattle.cert_check.specs.Refusals.{NamesFault}
use Rattle.cert_check.proofs.OwnLemmas.{own_passes, own_fails}
use Rattle.cert_check.proofs.RefusalLemmas.{walk_proves, walk_refuses, accepts, names_node}
use Rattle.cert_check.proofs.check.check_from.Goals as goal

pub returns-in-Ok-clause-proves : goal.returns-in-Ok-clause-proves
returns-in-Ok-clause-proves c =
    let p = c.args.site.now in
    let n = node_of c.args.start.now in
    let claim = claim_of c.args.claim.now in
    let tree = c.args.tree.now in
    let cost = cost_over c.cost_of_claim.result in
    let own : facts_of c.own-facts.result ≡ own_facts (net_of p) =
    c.own-facts.ensures ∙ ap (λ (q : Problem). own_facts (net_of q)) c.problem.ensures.same in
    let nodes = c.nodes.result.now in
    walk_proves c.args.partial p n claim tree c.in-Ok.ensures.passes cost c.cost_of_claim.ensures
    c.walk.result
    (subst
    (λ (ts : Tree). OnOk c.walk.result
    (Pass (shape_of p) (LeafPasses c.args.partial p cost) (n ∷ []) ts)) c.nodes.ensures
    (own_passes p (facts_of c.own-facts.result) own c.args.partial cost (λ l. l) (n ∷ []) nodes
    c.walk.result c.walk.ensures.passes))

pub returns-in-Ok-clause-refuses : goal.returns-in-Ok-clause-refuses
returns-in-Ok-clause-refuses c =
    let p = c.args.site.now in
    let n = node_of c.args.start.now in
    let claim = claim_of c.args.claim.now in
    let tree = c.args.tree.now in
    let cost = cost_over c.cost_of_claim.result in
    let own : facts_of c.own-facts.result ≡ own_facts (net_of p) =
    c.own-facts.ensures ∙ ap (λ (q : Problem). own_facts (net_of q)) c.problem.ensures.same in
    let nodes = c.nodes.result.now in
    walk_refuses c.args.partial p n claim tree c.in-Ok.ensures.passes cost c.cost_of_claim.ensures
    c.walk.result
    (subst
    (λ (ts : Tree). IfErr c.walk.result
    (NamesFault (shape_of p) (LeafPasses c.args.partial p cost) (LeafFails c.args.partial p cost)
    (n ∷ []) ts)) c.nodes.ensures
    (own_fails p (facts_of c.own-facts.result) own c.args.partial cost (λ l. l) (n ∷ []) nodes
    c.walk.result c.walk.ensures.fault))

pub returns-in-Ok-clause-accepts : goal.returns-in-Ok-clause-accepts
returns-in-Ok-clause-accepts c =
    let p = c.args.site.now in
    let n = node_of c.args.start.now in
    let claim = claim_of c.args.claim.now in
    let tree = c.args.tree.now in
    let cost = cost_over c.cost_of_claim.result in
    let own : facts_of c.own-facts.result ≡ own_facts (net_of p) =
    c.own-facts.ensures ∙ ap (λ (q : Problem). own_facts (net_of q)) c.problem.ensures.same in
    let nodes = c.nodes.result.now in
    let refuses : IfErr c.walk.result (Refuses c.args.partial p n claim tree) =
    walk_refuses c.args.partial p n claim tree c.in-Ok.ensures.passes cost c.cost_of_claim.ensures
    c.walk.result
    (subst
    (λ (ts : Tree). IfErr c.walk.result
    (NamesFault (shape_of p) (LeafPasses c.args.partial p cost) (LeafFails c.args.partial p cost)
    (n ∷ []) ts)) c.nodes.ensures
    (own_fails p (facts_of c.own-facts.result) own c.args.partial cost (λ l. l) (n ∷ []) nodes
    c.walk.result c.walk.ensures.fault)) in
    accepts c.args.partial p n claim tree c.claim_has_one_fault.ensures.passes
    c.tree_has_one_fault.ensures.passes c.walk.result refuses

pub returns-in-Ok-clause-names_node : goal.returns-in-Ok-clause-names_node
returns-in-Ok-clause-names_node c =
    let p = c.args.site.now in
    let n = node_of c.args.start.now in
    let claim = claim_of c.args.claim.now in
    let tree = c.args.tree.now in
    let cost = cost_over c.cost_of_claim.result in
    let own : facts_of c.own-facts.result ≡ own_facts (net_of p) =
    c.own-facts.ensures ∙ ap (λ (q : Problem). own_facts (net_of q)) c.problem.ensures.same in
    let nodes = c.nodes.result.now in
    let proves : OnOk c.walk.result (Proves c.args.partial p n claim tree) =
    walk_proves c.args.partial p n claim tree c.in-Ok.ensures.passes cost c.cost_of_claim.ensures
    c.walk.result
    (subst
    (λ (ts : Tree). OnOk c.walk.result
    (Pass (shape_of p) (LeafPasses c.args.partial p cost) (n ∷ []) ts)) c.nodes.ensures
    (own_passes p (facts_of c.own-facts.result) own c.args.partial cost (λ l. l) (n ∷ []) nodes
    c.walk.result c.walk.ensures.passes)) in
    let refuses : IfErr c.walk.result (Refuses c.args.partial p n claim tree) =
    walk_refuses c.args.partial p n claim tree c.in-Ok.ensures.passes cost c.cost_of_claim.ensures
    c.walk.result
    (subst
    (λ (ts : Tree). IfErr c.walk.result
    (NamesFault (shape_of p) (LeafPasses c.args.partial p cost) (LeafFails c.args.partial p cost)
    (n ∷ []) ts)) c.nodes.ensures
    (own_fails p (facts_of c.own-facts.result) own c.args.partial cost (λ l. l) (n ∷ []) nodes
    c.walk.result c.walk.ensures.fault)) in
    names_node c.args.partial p n claim tree c.claim_has_one_fault.ensures.passes
    c.tree_has_one_fault.ensures.passes c.tree_has_one_fault.ensures.one c.walk.result proves
    refuses
