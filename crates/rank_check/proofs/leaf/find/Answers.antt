use Rattle.std.proofs.Common.{◌≡◌, ◌≤◌, ◌-◌, length, refl, inl, inr, rules}
use Rattle.rank_check.proofs.LeafLemmas.{found_at, not_found}
use Rattle.rank_check.proofs.leaf.find.Goals as goal

pub returns-then-at-eq0-clause-none : goal.returns-then-at-eq0-clause-none
returns-then-at-eq0-clause-none c =
    let e : c.args.number ≡ 0 = search rules in
    not_found c.args.networks.now c.args.number (inl e)

pub returns-then-at-networks-clause-none : goal.returns-then-at-networks-clause-none
returns-then-at-networks-clause-none c =
    not_found c.args.networks.now c.args.number (inr c.if-at-networks.true)

pub returns-clause-some : goal.returns-clause-some
returns-clause-some c =
    let some : c.args.number ≡ 0 → ⊥ = search rules in
    let le : c.args.number ≤ length c.args.networks.now = search rules in
    found_at c.args.networks.now c.args.number (c.args.number - 1) c.index-networks-place.result
    some le refl c.index-networks-place.is
