use Rattle.pgraph.specs.Tables.{shape}
use Rattle.pgraph.proofs.AxiomLemmas.{breaks_s1_is}
use Rattle.pgraph.proofs.graph.Graph.breaking_s1.Goals as goal

pub returns : goal.returns
returns c =
    breaks_s1_is (shape c.args.self.now) c.args.set c.products.result c.materials.result
    c.minus.result c.products.ensures c.materials.ensures c.minus.ensures
