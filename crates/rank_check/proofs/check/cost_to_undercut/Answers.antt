use Rattle.std.proofs.Common.{◌≡◌, ◌+◌, ◌-◌, length, rules, arith}
use Rattle.rank_check.proofs.NetworkLemmas.{undercut_is}
use Rattle.rank_check.proofs.check.cost_to_undercut.Goals as goal

pub returns : goal.returns
returns c =
    let full : length c.args.networks.now ≡ c.args.count = search rules in
    let last : length c.args.networks.now - 1 + 1 ≡ length c.args.networks.now =
    grind (arith, c.if-found-eq0.false) in
    undercut_is c.args.count (length c.args.networks.now - 1) c.args.networks.now
    c.index-networks-place.result _ full last c.index-networks-place.is c.cost_of.ensures
