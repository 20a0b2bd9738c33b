use Rattle.std.proofs.Common.{◌≡◌, ◌∙◌, Some, sym, subst}
use Rattle.node_evaluation.specs.pns_rules.Shape.{shape_of}
use Rattle.node_evaluation.specs.pns_rules.Ends.{IsSound}
use Rattle.node_evaluation.specs.pgraph.View.{node_of}
use Rattle.node_evaluation.specs.unit_sets.declared.node.Node.{Node}
use Rattle.abb_search.proofs.ChargingLemmas.{is_charging}
use Rattle.abb_search.proofs.ReadyLemmas.{first_has}
use Rattle.abb_search.proofs.TurnLemmas.{there, sound_there}
use Rattle.abb_search.proofs.charging.charge_least.Goals as goal

pub value-requires : goal.value-requires
value-requires g c =
    let s = c.args.growing.now in
    c.is_pool.ensures.leaves c.in_ok-leaf.leaf
    (first_has s.pool.leaves c.in_ok-leaf.leaf (sym c.least.ensures ∙ c.in_ok-leaf.was))

pub node_at-node-requires : goal.node_at-node-requires
node_at-node-requires g c =
    let s = c.args.growing.now in
    there c.args.site.now c.problem.ensures.valid s c.requires.growing c.in_ok-leaf.leaf
    (first_has s.pool.leaves c.in_ok-leaf.leaf (sym c.least.ensures ∙ c.in_ok-leaf.was))
    c.is_pool.ensures.payloads c.is_pool.ensures.leaves

pub charge-requires-clause-sound : goal.charge-requires-clause-sound
charge-requires-clause-sound g c =
    let s = c.args.growing.now in
    subst (λ (k : Node). IsSound (shape_of c.args.site.now) (node_of k))
    (sym c.node_at-node.ensures)
    (sound_there c.args.site.now c.problem.ensures.valid s c.requires.growing c.in_ok-leaf.leaf
    (first_has s.pool.leaves c.in_ok-leaf.leaf (sym c.least.ensures ∙ c.in_ok-leaf.was))
    c.is_pool.ensures.payloads c.is_pool.ensures.leaves)

pub returns-clause-charged : goal.returns-clause-charged
returns-clause-charged g c =
    let s = c.args.growing.now in
    let best : s.best ≡ Some c.in_ok-network.network.now =
    sym c.in_ok-network.ensures.value in
    is_charging c.args.site.now s c.in_ok-leaf.leaf c.node_at-node.result
    c.in_ok-network.network.now c.in_ok-charged.charged
    (there c.args.site.now c.problem.ensures.valid s c.requires.growing c.in_ok-leaf.leaf
    (first_has s.pool.leaves c.in_ok-leaf.leaf (sym c.least.ensures ∙ c.in_ok-leaf.was))
    c.is_pool.ensures.payloads c.is_pool.ensures.leaves)
    (first_has s.pool.leaves c.in_ok-leaf.leaf (sym c.least.ensures ∙ c.in_ok-leaf.was))
    best c.node_at-node.ensures c.in_ok-charged.ensures.charged
