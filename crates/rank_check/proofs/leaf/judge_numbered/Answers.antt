use Rattle.rank_laws.specs.rank_rules.Networks.{numbered}
use Rattle.cert_check.specs.pgraph.View.{node_of}
use Rattle.rank_check.specs.View.{name_of}
use Rattle.rank_check.proofs.LeafLemmas.{no_network}
use Rattle.rank_check.proofs.leaf.judge_numbered.Goals as goal

pub returns-in-None-clause-fails : goal.returns-in-None-clause-fails
returns-in-None-clause-fails c =
    no_network c.args.distinct c.args.site.now
    (numbered c.args.name.now.network c.args.networks.now) (node_of c.args.node.now)
    (name_of c.args.name.now) c.cause_of.result c.in-None.ensures.none c.cause_of.ensures
