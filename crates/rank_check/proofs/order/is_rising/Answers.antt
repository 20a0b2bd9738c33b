use Rattle.std.proofs.Common.{◌≡◌, refl, rules}
use Rattle.rank_check.proofs.NetworkLemmas.{first_rises, rises_from}
use Rattle.rank_check.proofs.order.is_rising.Goals as goal

pub returns-then-at-eq0 : goal.returns-then-at-eq0
returns-then-at-eq0 c =
    let e : c.args.at ≡ 0 = search rules in
    ((λ h. first_rises c.args.networks.now c.args.network.now c.args.at e), (λ h. refl))

pub returns : goal.returns
returns c =
    let some : c.args.at ≡ 0 → ⊥ = search rules in
    rises_from c.args.networks.now c.index-networks-place.result c.args.network.now c.args.at
    c.is_no_cheaper.result some c.requires c.index-networks-place.is c.is_no_cheaper.ensures
