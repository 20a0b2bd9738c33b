use Rattle.std.proofs.Common.{◌≡◌, [], refl, sym, subst, arith}
use Rattle.rank_check.specs.number_sets.Sets.{has}
use Rattle.rank_check.specs.pns_rules.Shape.{shape_of}
use Rattle.rank_check.specs.pns_rules.Nodes.{Node}
use Rattle.rank_check.specs.pns_rules.Ends.{IsSound}
use Rattle.rank_check.specs.pgraph.View.{node_of}
use Rattle.rank_check.specs.tree_rules.Accepted.{first_node}
use Rattle.rank_search.specs.Listed.{Listed, IsListed}
use Rattle.rank_search.proofs.RootLemmas.{first_is_sound, one_network, added_one, begun, same_count}
use Rattle.rank_search.proofs.whole.begin.Goals as goal

pub look_at_root-requires-clause-sound : goal.look_at_root-requires-clause-sound
look_at_root-requires-clause-sound g c =
    let start : node_of (record { inside = c.empty.result; outside = c.empty-2.result })
    ≡ first_node =
    λ i. record { inside = has (c.empty.ensures i); outside = has (c.empty-2.ensures i) } in
    subst (λ (n : Node). IsSound (shape_of c.args.site.now) n) (sym start)
    (first_is_sound (shape_of c.args.site.now))

pub returns-clause-ranking : goal.returns-clause-ranking
returns-clause-ranking g c =
    let start : node_of (record { inside = c.empty.result; outside = c.empty-2.result })
    ≡ first_node =
    λ i. record { inside = has (c.empty.ensures i); outside = has (c.empty-2.ensures i) } in
    let s = c.in_ok-growing.growing in
    let l : Listed = record { count = c.args.count; found = [] } in
    let listed : IsListed l =
    record { asked = c.requires.asked; few = omega arith; rising = tt; scaled = tt } in
    let networks =
    one_network c.push.new.self.items c.new-networks.result.items
    c.in_ok-copy_of_network.field-0 s.best c.in_ok-push.ensures.items
    c.new-networks.ensures.items c.in_ok-copy_of_network.ensures in
    let added =
    added_one c.new-found.result l c.add_all.new.self c.push.new.self.items s.best
    c.new-found.ensures networks c.in_ok-add_all.ensures.added in
    begun g.E.Evaluator.past c.args.site.now
    (record { inside = c.empty.result; outside = c.empty-2.result }) c.args.budget s
    c.in_ok-growing.ensures.root c.requires.some
    l c.add_all.new.self listed refl (c.in_ok-growing.ensures.solved refl) added start

pub returns-clause-count : goal.returns-clause-count
returns-clause-count g c =
    let s = c.in_ok-growing.growing in
    let l : Listed = record { count = c.args.count; found = [] } in
    let listed : IsListed l =
    record { asked = c.requires.asked; few = omega arith; rising = tt; scaled = tt } in
    let networks =
    one_network c.push.new.self.items c.new-networks.result.items
    c.in_ok-copy_of_network.field-0 s.best c.in_ok-push.ensures.items
    c.new-networks.ensures.items c.in_ok-copy_of_network.ensures in
    let added =
    added_one c.new-found.result l c.add_all.new.self c.push.new.self.items s.best
    c.new-found.ensures networks c.in_ok-add_all.ensures.added in
    same_count g.E.Evaluator.past c.args.site.now
    (record { inside = c.empty.result; outside = c.empty-2.result }) c.args.budget s
    c.in_ok-growing.ensures.root c.requires.some
    l c.add_all.new.self listed refl (c.in_ok-growing.ensures.solved refl) added
