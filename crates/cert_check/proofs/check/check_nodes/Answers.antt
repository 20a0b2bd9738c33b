use Rattle.std.proofs.Common.{◌≡◌, ◌∙◌, true, [], ◌∷◌, OnOk, IfErr, ap, subst}
use Rattle.tree_text_rules.specs.problem_rules.Problem.{Problem}
use Rattle.tree_text_rules.specs.pns_rules.Shape.{shape_of}
use Rattle.charges.specs.pgraph.View.{node_of}
use Rattle.tree_text_rules.specs.flow_rules.Net.{net_of}
use Rattle.tree_text_rules.specs.flow_rules.ChargeFacts.{own_facts}
use Rattle.charges.specs.Known.{facts_of}
use Rattle.tree_text_rules.specs.tree_rules.Tree.{Pass}
use Rattle.tree_text_rules.specs.tree_rules.Accepted.{Tree}
use Rattle.cert_check.specs.Shown.{cost_over}
use Rattle.cert_check.specs.Bare.{bare, BarePasses, BareFails}
use Rattle.cert_check.specs.Refusals.{NamesFault}
use Rattle.cert_check.proofs.OwnLemmas.{own_passes, own_stops}
use Rattle.cert_check.proofs.check.check_nodes.Goals as goal

pub returns-clause-passes : goal.returns-clause-passes
returns-clause-passes c =
    let p = c.args.site.now in
    let n = node_of c.args.start.now in
    let cost = cost_over c.args.undercut in
    let own : facts_of c.own-facts.result ≡ own_facts (net_of p) =
    c.own-facts.ensures ∙ ap (λ (q : Problem). own_facts (net_of q)) c.problem.ensures.same in
    subst
    (λ (ts : Tree). OnOk c.walk_to.result (Pass (shape_of p) (BarePasses p cost) (n ∷ []) ts))
    c.nodes.ensures
    (own_passes p (facts_of c.own-facts.result) own true cost bare (n ∷ []) c.nodes.result.now
    c.walk_to.result c.walk_to.ensures.passes)

pub returns-clause-fault : goal.returns-clause-fault
returns-clause-fault c =
    let p = c.args.site.now in
    let n = node_of c.args.start.now in
    let cost = cost_over c.args.undercut in
    let own : facts_of c.own-facts.result ≡ own_facts (net_of p) =
    c.own-facts.ensures ∙ ap (λ (q : Problem). own_facts (net_of q)) c.problem.ensures.same in
    subst
    (λ (ts : Tree). IfErr c.walk_to.result
    (λ stop. NamesFault (shape_of p) (BarePasses p cost) (BareFails p cost) (n ∷ []) ts
    stop.refusal)) c.nodes.ensures
    (own_stops p (facts_of c.own-facts.result) own true cost bare (n ∷ []) c.nodes.result.now
    c.walk_to.result c.walk_to.ensures.fault)
