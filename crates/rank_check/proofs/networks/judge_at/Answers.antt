use Rattle.rank_check.specs.Earlier.{earlier}
use Rattle.rank_check.proofs.NetworkLemmas.{passes_whole, fails_whole}
use Rattle.rank_check.proofs.networks.judge_at.Goals as goal

pub returns-in-Ok-clause-passes : goal.returns-in-Ok-clause-passes
returns-in-Ok-clause-passes c =
    passes_whole c.args.distinct c.args.site.now (earlier c.args.at c.args.networks.now)
    c.args.network.now c.judge_order.result c.in-Ok.ensures.passes c.judge_order.ensures.passes

pub returns-in-Ok-clause-fails : goal.returns-in-Ok-clause-fails
returns-in-Ok-clause-fails c =
    fails_whole c.args.distinct c.args.site.now (earlier c.args.at c.args.networks.now)
    c.args.network.now c.judge_order.result c.in-Ok.ensures.passes c.judge_order.ensures.fails
