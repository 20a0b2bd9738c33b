use Rattle.std.proofs.Common.{◌≡◌, ◌∷◌, ◌≤◌, [], List, Option, refl, sym, subst}
use Rattle.rank_check.specs.number_sets.Sets.{has}
use Rattle.rank_check.specs.pns_rules.Shape.{shape_of}
use Rattle.rank_check.specs.pns_rules.Nodes.{Node}
use Rattle.rank_check.specs.pns_rules.Ends.{IsSound}
use Rattle.rank_check.specs.pgraph.View.{node_of}
use Rattle.rank_check.specs.tree_rules.Claim.{Network}
use Rattle.rank_check.specs.tree_rules.Accepted.{first_node}
use Rattle.rank_search.specs.Found.{FoundAt}
use Rattle.rank_check.specs.exact_numbers.declared.number.Mixed.{Mixed}
use Rattle.rank_search.proofs.RootLemmas.{first_is_sound, one_network}
use Rattle.rank_search.specs.Plants.{AreAdded}
use Rattle.rank_search.specs.Listing.{IsWithValues}
use Rattle.rank_search.proofs.DistinctRootLemmas.{begun}
use Rattle.rank_search.proofs.distinct_whole.begin.Goals as goal

pub look_at_root-requires-clause-sound : goal.look_at_root-requires-clause-sound
look_at_root-requires-clause-sound g c =
    let start : node_of (record { inside = c.empty.result; outside = c.empty-2.result })
    ≡ first_node =
    λ i. record { inside = has (c.empty.ensures i); outside = has (c.empty-2.ensures i) } in
    subst (λ (n : Node). IsSound (shape_of c.args.site.now) n) (sym start)
    (first_is_sound (shape_of c.args.site.now))

pub returns-clause-searching : goal.returns-clause-searching
returns-clause-searching g c =
    let start : node_of (record { inside = c.empty.result; outside = c.empty-2.result })
    ≡ first_node =
    λ i. record { inside = has (c.empty.ensures i); outside = has (c.empty-2.ensures i) } in
    let s = c.in_ok-growing.growing in
    let networks =
    one_network c.push.new.self.items c.new-networks.result.items
    c.in_ok-copy_of_network.field-0 s.best c.in_ok-push.ensures.items
    c.new-networks.ensures.items c.in_ok-copy_of_network.ensures in
    let l = c.take_networks.new.listing in
    let added =
    subst (λ (fs : List FoundAt). AreAdded fs l.plants (s.best ∷ [])) c.new.ensures
    (subst (λ (ws : List (Option Network)). AreAdded c.new.result l.plants ws) networks
    c.in_ok-take_networks.ensures.added) in
    let values =
    subst (λ (os : List (Option Mixed)). IsWithValues os l.reached.items (s.best ∷ []))
    c.new-2.ensures.items
    (subst
    (λ (ws : List (Option Network)). IsWithValues c.new-2.result.items l.reached.items ws)
    networks c.in_ok-take_networks.ensures.reached) in
    begun g.E.Evaluator.past c.args.site.now
    (record { inside = c.empty.result; outside = c.empty-2.result }) c.args.budget s
    c.in_ok-growing.ensures.root c.requires.some start (c.in_ok-growing.ensures.solved refl) l
    (subst (λ n. 1 ≤ n) (sym c.take_networks.ensures.count) c.requires.asked) added values
