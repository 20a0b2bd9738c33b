use Rattle.std.proofs.Common.{◌∙◌, SFits, rules, to_z, of_z}
use Rattle.std.specs.Int.{w128}
use Rattle.std.proofs.lemmas.Int.{to_z-of_z}
use Rattle.cert_check.specs.pgraph.View.{node_of}
use Rattle.rank_check.specs.View.{name_of}
use Rattle.rank_check.proofs.LeafLemmas.{other_node, named_passes, named_told}
use Rattle.rank_check.proofs.leaf.judge_named.Goals as goal

pub returns-then-not-may_name-clause-fails : goal.returns-then-not-may_name-clause-fails
returns-then-not-may_name-clause-fails c =
    other_node c.args.distinct c.args.site.now c.args.network.now (node_of c.args.node.now)
    (name_of c.args.name.now) c.cause_of.result c.cause_of.ensures
    (λ h. let t = c.may_name.ensures.1 h in search rules)

pub returns-in-Ok-clause-passes : goal.returns-in-Ok-clause-passes
returns-in-Ok-clause-passes c =
    let fits : SFits w128 c.d.result = search rules in
    named_passes c.args.distinct c.args.site.now c.args.network.now (node_of c.args.node.now) _
    (to_z w128 (of_z w128 c.d.result)) c.ys.result.now (name_of c.args.name.now)
    c.cost_of-cost.ensures (to_z-of_z w128 c.d.result fits ∙ c.d.ensures) c.ys.ensures
    (c.may_name.ensures.0 c.if-not-may_name.false) c.in-Ok.ensures.passes

pub returns-in-Err-clause-fails : goal.returns-in-Err-clause-fails
returns-in-Err-clause-fails c =
    let fits : SFits w128 c.d.result = search rules in
    named_told c.args.distinct c.args.site.now c.args.network.now (node_of c.args.node.now) _
    (to_z w128 (of_z w128 c.d.result)) c.ys.result.now (name_of c.args.name.now)
    c.cost_of-cost.ensures (to_z-of_z w128 c.d.result fits ∙ c.d.ensures) c.ys.ensures
    (c.may_name.ensures.0 c.if-not-may_name.false)
    c.in-Err.why c.told.result c.in-Err.ensures.fails c.told.ensures
