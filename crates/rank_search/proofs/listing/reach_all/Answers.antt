use Rattle.std.specs.List.{slice_get}
use Rattle.std.proofs.Common.{◌≡◌, List, Option, Some, take, subst, arith}
use Rattle.rank_check.specs.tree_rules.Claim.{Network}
use Rattle.rank_search.proofs.NameLemmas.{item_there}
use Rattle.rank_search.proofs.PlaceLemmas.{take_whole}
use Rattle.rank_search.specs.Listing.{IsWithValues}
use Rattle.rank_search.proofs.ListingLemmas.{values_none, values_next, take_next}
use Rattle.rank_search.proofs.listing.reach_all.Goals as goal

pub reaching-init : goal.reaching-init
reaching-init c = values_none c.args.reached.now.items

pub reaching-preserved : goal.reaching-preserved
reaching-preserved c =
    let ws = c.args.networks.now in
    let i = c.reaching.network-index in
    let there : slice_get c.args.networks.now c.reaching.network-index
    ≡ Some c.network-item.result =
    item_there ws i c.network-item.result (let t = c.reaching-test.true in omega (arith, t))
    c.network-item.is in
    subst
    (λ (xs : List (Option Network)). IsWithValues c.args.reached.now.items c.push.new.self.items xs)
    (take_next ws i c.network-item.result there)
    (values_next c.args.reached.now.items c.reaching.reached.items c.push.new.self.items
    (take i ws) c.network-item.result c.value_for.result c.reaching.invariant
    c.value_for.ensures c.in_ok-push.ensures.items)

pub returns : goal.returns
returns c =
    subst
    (λ (xs : List (Option Network)). IsWithValues c.args.reached.now.items c.reaching.reached.items
    xs)
    (take_whole c.reaching.network-index c.args.networks.now
    (let t = c.reaching-test.false in omega (arith, t))) c.reaching.invariant
