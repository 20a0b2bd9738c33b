use Rattle.std.proofs.Common.{◌≡◌, ◌∷◌, [], true, IfOk, OnOk, IfErr, subst, sym}
use Rattle.tree_text_laws.specs.number_sets.Sets.{has}
use Rattle.tree_text_laws.specs.pns_rules.Shape.{shape_of}
use Rattle.tree_text_laws.specs.pns_rules.Nodes.{Node}
use Rattle.tree_text_laws.specs.pgraph.View.{node_of}
use Rattle.tree_text_laws.specs.tree_rules.Accepted.{first_node, Proves, NodeIsFault}
use Rattle.tree_text_laws.specs.branch_tree.View.{claim_of}
use Rattle.tree_text_laws.specs.tree_text_rules.OpenLeaves.{open_leaves}
use Rattle.cert_check.specs.OpenLeaves.{leaves_at}
use Rattle.tree_text_laws.specs.tree_rules.Refusals.{Refuses}
use Rattle.tree_parts.proofs.open.open_leaves.Goals as goal

pub returns-clause-partial : goal.returns-clause-partial
returns-clause-partial c =
    let p = c.args.site.now in
    let claim = claim_of c.args.claim.now in
    let tree = c.args.tree.now in
    let r = c.check_from.result in
    let start : node_of (record { inside = c.empty.result; outside = c.empty-2.result })
    ≡ first_node =
    λ i. record { inside = has (c.empty.ensures i); outside = has (c.empty-2.ensures i) } in
    subst (λ (n : Node). OnOk r (Proves true p n claim tree)) start c.check_from.ensures.proves

pub returns-clause-opens : goal.returns-clause-opens
returns-clause-opens c =
    let p = c.args.site.now in
    let claim = claim_of c.args.claim.now in
    let tree = c.args.tree.now in
    let r = c.check_from.result in
    let start : node_of (record { inside = c.empty.result; outside = c.empty-2.result })
    ≡ first_node =
    λ i. record { inside = has (c.empty.ensures i); outside = has (c.empty-2.ensures i) } in
    λ h. c.check_from.ensures.accepts
    (subst (λ (n : Node). Proves true p n claim tree) (sym start) h)

pub returns-clause-leaves : goal.returns-clause-leaves
returns-clause-leaves c =
    let p = c.args.site.now in
    let claim = claim_of c.args.claim.now in
    let tree = c.args.tree.now in
    let r = c.check_from.result in
    let start : node_of (record { inside = c.empty.result; outside = c.empty-2.result })
    ≡ first_node =
    λ i. record { inside = has (c.empty.ensures i); outside = has (c.empty-2.ensures i) } in
    subst (λ (n : Node). IfOk r (λ v. leaves_at v.items ≡ open_leaves (shape_of p) (n ∷ []) tree 0))
    start c.check_from.ensures.leaves

pub returns-clause-refused : goal.returns-clause-refused
returns-clause-refused c =
    let p = c.args.site.now in
    let claim = claim_of c.args.claim.now in
    let tree = c.args.tree.now in
    let r = c.check_from.result in
    let start : node_of (record { inside = c.empty.result; outside = c.empty-2.result })
    ≡ first_node =
    λ i. record { inside = has (c.empty.ensures i); outside = has (c.empty-2.ensures i) } in
    subst (λ (n : Node). IfErr r (Refuses true p n claim tree)) start c.check_from.ensures.refuses

pub returns-clause-names_node : goal.returns-clause-names_node
returns-clause-names_node c =
    let p = c.args.site.now in
    let claim = claim_of c.args.claim.now in
    let tree = c.args.tree.now in
    let r = c.check_from.result in
    let start : node_of (record { inside = c.empty.result; outside = c.empty-2.result })
    ≡ first_node =
    λ i. record { inside = has (c.empty.ensures i); outside = has (c.empty-2.ensures i) } in
    λ k why passes fault. c.check_from.ensures.names_node k why passes
    (subst (λ (n : Node). NodeIsFault true p n claim tree k why) (sym start) fault)
