use Rattle.std.proofs.Common.{◌≡◌, ◌∙◌, [], ◌∷◌, List, ℕ, Option, OnOk, IfOk, IfErr, ap₂, subst}
use Rattle.rank_laws.specs.number_sets.Sets.{has}
use Rattle.rank_laws.specs.pns_rules.Shape.{shape_of}
use Rattle.rank_laws.specs.pns_rules.Nodes.{Node}
use Rattle.rank_laws.specs.tree_rules.Tree.{Pass}
use Rattle.rank_laws.specs.tree_rules.Claim.{Network, CostOver}
use Rattle.rank_laws.specs.tree_rules.Accepted.{Tree, first_node}
use Rattle.rank_laws.specs.tree_text_rules.OpenLeaves.{open_leaves}
use Rattle.cert_check.specs.pgraph.View.{node_of}
use Rattle.cert_check.specs.Shown.{cost_over}
use Rattle.cert_check.specs.Bare.{BarePasses, BareFails}
use Rattle.cert_check.specs.OpenLeaves.{leaves_at, AreBefore}
use Rattle.cert_check.specs.Refusals.{NamesFault}
use Rattle.rank_laws.specs.rank_rules.Networks.{to_undercut}
use Rattle.rank_check.proofs.check.walk_tree.Goals as goal

pub returns-clause-passes : goal.returns-clause-passes
returns-clause-passes c =
    let p = c.args.site.now in
    let t = c.args.text.now in
    let u = to_undercut t.count t.networks in
    let start : node_of (record { inside = c.empty.result; outside = c.empty-2.result })
    ≡ first_node =
    λ i. record { inside = has (c.empty.ensures i); outside = has (c.empty-2.ensures i) } in
    let cost : cost_over c.cost_to_undercut-undercut.result ≡ u =
    c.cost_to_undercut-undercut.ensures
    ∙ ap₂ (λ (k : ℕ) (ws : List Network). to_undercut k ws) c.count.ensures
    c.networks.ensures in
    subst
    (λ (ts : Tree). OnOk c.check_nodes.result
    (Pass (shape_of p) (BarePasses p u) (first_node ∷ []) ts)) c.tree.ensures
    (subst
    (λ (v : Option CostOver). OnOk c.check_nodes.result
    (Pass (shape_of p) (BarePasses p v) (first_node ∷ []) c.tree.result.now)) cost
    (subst
    (λ (n : Node). OnOk c.check_nodes.result
    (Pass (shape_of p) (BarePasses p (cost_over c.cost_to_undercut-undercut.result)) (n ∷ [])
    c.tree.result.now)) start c.check_nodes.ensures.passes))

pub returns-clause-leaves : goal.returns-clause-leaves
returns-clause-leaves c =
    let p = c.args.site.now in
    let t = c.args.text.now in
    let u = to_undercut t.count t.networks in
    let start : node_of (record { inside = c.empty.result; outside = c.empty-2.result })
    ≡ first_node =
    λ i. record { inside = has (c.empty.ensures i); outside = has (c.empty-2.ensures i) } in
    let cost : cost_over c.cost_to_undercut-undercut.result ≡ u =
    c.cost_to_undercut-undercut.ensures
    ∙ ap₂ (λ (k : ℕ) (ws : List Network). to_undercut k ws) c.count.ensures
    c.networks.ensures in
    subst
    (λ (ts : Tree). IfOk c.check_nodes.result
    (λ w. leaves_at w.items ≡ open_leaves (shape_of p) (first_node ∷ []) ts 0)) c.tree.ensures
    (subst
    (λ (v : Option CostOver). IfOk c.check_nodes.result
    (λ w. leaves_at w.items ≡ open_leaves (shape_of p) (first_node ∷ []) c.tree.result.now 0))
    cost
    (subst
    (λ (n : Node). IfOk c.check_nodes.result
    (λ w. leaves_at w.items ≡ open_leaves (shape_of p) (n ∷ []) c.tree.result.now 0)) start
    c.check_nodes.ensures.leaves))

pub returns-clause-fault : goal.returns-clause-fault
returns-clause-fault c =
    let p = c.args.site.now in
    let t = c.args.text.now in
    let u = to_undercut t.count t.networks in
    let start : node_of (record { inside = c.empty.result; outside = c.empty-2.result })
    ≡ first_node =
    λ i. record { inside = has (c.empty.ensures i); outside = has (c.empty-2.ensures i) } in
    let cost : cost_over c.cost_to_undercut-undercut.result ≡ u =
    c.cost_to_undercut-undercut.ensures
    ∙ ap₂ (λ (k : ℕ) (ws : List Network). to_undercut k ws) c.count.ensures
    c.networks.ensures in
    subst
    (λ (ts : Tree). IfErr c.check_nodes.result
    (λ stop. NamesFault (shape_of p) (BarePasses p u) (BareFails p u) (first_node ∷ []) ts
    stop.refusal)) c.tree.ensures
    (subst
    (λ (v : Option CostOver). IfErr c.check_nodes.result
    (λ stop. NamesFault (shape_of p) (BarePasses p v) (BareFails p v) (first_node ∷ [])
    c.tree.result.now stop.refusal)) cost
    (subst
    (λ (n : Node). IfErr c.check_nodes.result
    (λ stop. NamesFault (shape_of p)
    (BarePasses p (cost_over c.cost_to_undercut-undercut.result))
    (BareFails p (cost_over c.cost_to_undercut-undercut.result)) (n ∷ []) c.tree.result.now
    stop.refusal)) start c.check_nodes.ensures.fault))

pub returns-clause-before : goal.returns-clause-before
returns-clause-before c =
    let p = c.args.site.now in
    let t = c.args.text.now in
    let u = to_undercut t.count t.networks in
    let start : node_of (record { inside = c.empty.result; outside = c.empty-2.result })
    ≡ first_node =
    λ i. record { inside = has (c.empty.ensures i); outside = has (c.empty-2.ensures i) } in
    let cost : cost_over c.cost_to_undercut-undercut.result ≡ u =
    c.cost_to_undercut-undercut.ensures
    ∙ ap₂ (λ (k : ℕ) (ws : List Network). to_undercut k ws) c.count.ensures
    c.networks.ensures in
    subst
    (λ (ts : Tree). IfErr c.check_nodes.result
    (λ stop. AreBefore (shape_of p) (first_node ∷ []) ts stop.refusal
    (leaves_at stop.leaves.items))) c.tree.ensures
    (subst
    (λ (v : Option CostOver). IfErr c.check_nodes.result
    (λ stop. AreBefore (shape_of p) (first_node ∷ []) c.tree.result.now stop.refusal
    (leaves_at stop.leaves.items))) cost
    (subst
    (λ (n : Node). IfErr c.check_nodes.result
    (λ stop. AreBefore (shape_of p) (n ∷ []) c.tree.result.now stop.refusal
    (leaves_at stop.leaves.items))) start c.check_nodes.ensures.before))
