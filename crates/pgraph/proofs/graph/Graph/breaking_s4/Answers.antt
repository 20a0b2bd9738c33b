use Rattle.pgraph.specs.Tables.{shape}
use Rattle.pgraph.proofs.AxiomLemmas.{breaks_s4_is, others_reach}
use Rattle.pgraph.proofs.graph.Graph.breaking_s4.Goals as goal

pub returns-clause-broken : goal.returns-clause-broken
returns-clause-broken c =
    breaks_s4_is (shape c.args.self.now) c.args.set c.reaching.result c.minus.result
    c.reaching.ensures c.minus.ensures

pub returns-clause-others : goal.returns-clause-others
returns-clause-others c =
    others_reach (shape c.args.self.now) c.args.set c.reaching.result c.minus.result
    c.reaching.ensures c.minus.ensures
