use Rattle.std.proofs.Common.{◌≡◌, true, false, rules}
use Rattle.cert_check.specs.pgraph.View.{node_of}
use Rattle.rank_check.proofs.LeafLemmas.{may_only, may_within, may_not}
use Rattle.rank_check.proofs.leaf.may_name.Goals as goal

pub returns-in-Only : goal.returns-in-Only
returns-in-Only c =
    may_only c.is_only.result c.args.distinct c.args.way c.args.site.now c.args.network.now
    (node_of c.args.node.now) c.in-Only.is c.is_only.ensures

pub returns-then-distinct : goal.returns-then-distinct
returns-then-distinct c =
    let e : c.args.distinct ≡ true = search rules in
    may_within c.is_taken_in.result c.args.distinct c.args.way c.args.site.now c.args.network.now
    (node_of c.args.node.now) c.in-Within.is e c.is_taken_in.ensures

pub returns-else-distinct : goal.returns-else-distinct
returns-else-distinct c =
    let e : c.args.distinct ≡ false = search rules in
    may_not c.args.distinct c.args.way c.args.site.now c.args.network.now (node_of c.args.node.now)
    c.in-Within.is e
