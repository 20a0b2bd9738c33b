use Rattle.std.proofs.Common.{◌≡◌, true, false, rules}
use Rattle.rank_check.proofs.NetworkLemmas.{alike_as}
use Rattle.rank_check.proofs.order.are_alike.Goals as goal

pub returns-then-distinct : goal.returns-then-distinct
returns-then-distinct c =
    let e : c.args.distinct ≡ true = search rules in
    alike_as true c.args.distinct c.one_repeats.result c.args.a.now c.args.b.now e
    c.one_repeats.ensures

pub returns-else-distinct : goal.returns-else-distinct
returns-else-distinct c =
    let e : c.args.distinct ≡ false = search rules in
    alike_as false c.args.distinct c.have_same.result c.args.a.now c.args.b.now e
    c.have_same.ensures
