use Rattle.std.proofs.Common.{◌≡◌, Some, None, sym, ◌∙◌, arith}
use Rattle.link_lists.specs.Lists.{row, following}
use Rattle.link_lists.proofs.Cited.{following_has}
use Rattle.node_pool.specs.Order.{is_at_least}
use Rattle.node_pool.proofs.Places.{found_on, found_none, place_following, place_below}
use Rattle.node_pool.proofs.Order.{stays_at_least}
use Rattle.node_pool.proofs.leaves.on_to_first.Goals as goal

pub is_at_least-requires : goal.is_at_least-requires
is_at_least-requires c =
    let xs = row c.args.lists.now.lists 0 in
    let vs = c.args.values.now.items in
    let v = c.args.value.now in
    let t = is_at_least vs v in
    let leaf = c.loop-after.leaf in
    let listed = c.loop-after.invariant.listed in
    let once = c.are_apart.ensures.apart.once 0 in
    let stays = stays_at_least vs v xs c.requires.known c.requires.rising in
    let near : following leaf xs ≡ Some c.in-Some.after =
    sym (c.next.ensures 0 listed) ∙ c.in-Some.is in
    let there = following_has leaf xs c.in-Some.after near in
    c.requires.known c.in-Some.after there

pub returns-then-is_at_least : goal.returns-then-is_at_least
returns-then-is_at_least c =
    let xs = row c.args.lists.now.lists 0 in
    let vs = c.args.values.now.items in
    let v = c.args.value.now in
    let t = is_at_least vs v in
    let leaf = c.loop-after.leaf in
    let listed = c.loop-after.invariant.listed in
    let once = c.are_apart.ensures.apart.once 0 in
    let stays = stays_at_least vs v xs c.requires.known c.requires.rising in
    let near : following leaf xs ≡ Some c.in-Some.after =
    sym (c.next.ensures 0 listed) ∙ c.in-Some.is in
    let there = following_has leaf xs c.in-Some.after near in
    sym (found_on t xs leaf c.in-Some.after stays listed c.loop-after.invariant.lower near
    (sym c.is_at_least.ensures ∙ c.if-is_at_least.true))

pub loop-after-smaller : goal.loop-after-smaller
loop-after-smaller c =
    let xs = row c.args.lists.now.lists 0 in
    let vs = c.args.values.now.items in
    let v = c.args.value.now in
    let t = is_at_least vs v in
    let leaf = c.loop-after.leaf in
    let listed = c.loop-after.invariant.listed in
    let once = c.are_apart.ensures.apart.once 0 in
    let stays = stays_at_least vs v xs c.requires.known c.requires.rising in
    let near : following leaf xs ≡ Some c.in-Some.after =
    sym (c.next.ensures 0 listed) ∙ c.in-Some.is in
    let there = following_has leaf xs c.in-Some.after near in
    let next = place_following xs leaf c.in-Some.after once listed near in
    let below = place_below xs c.in-Some.after there in
    omega arith

pub loop-after-preserved : goal.loop-after-preserved
loop-after-preserved c =
    let xs = row c.args.lists.now.lists 0 in
    let vs = c.args.values.now.items in
    let v = c.args.value.now in
    let t = is_at_least vs v in
    let leaf = c.loop-after.leaf in
    let listed = c.loop-after.invariant.listed in
    let once = c.are_apart.ensures.apart.once 0 in
    let stays = stays_at_least vs v xs c.requires.known c.requires.rising in
    let near : following leaf xs ≡ Some c.in-Some.after =
    sym (c.next.ensures 0 listed) ∙ c.in-Some.is in
    let there = following_has leaf xs c.in-Some.after near in
    record { listed = there; lower = sym c.is_at_least.ensures ∙ c.if-is_at_least.false }

pub returns : goal.returns
returns c =
    let xs = row c.args.lists.now.lists 0 in
    let vs = c.args.values.now.items in
    let v = c.args.value.now in
    let t = is_at_least vs v in
    let leaf = c.loop-after.leaf in
    let listed = c.loop-after.invariant.listed in
    let once = c.are_apart.ensures.apart.once 0 in
    let stays = stays_at_least vs v xs c.requires.known c.requires.rising in
    let none : following leaf xs ≡ None = sym (c.next.ensures 0 listed) ∙ c.in_default.is in
    sym (found_none t xs leaf stays listed c.loop-after.invariant.lower none)
