use Rattle.flow_rules.specs.number_sets.Sets.{has}
use Rattle.pgraph.specs.Tables.{shape}
use Rattle.pgraph.proofs.ExclusionLemmas.{shares_more}
use Rattle.pgraph.proofs.graph.Graph.sharing.Goals as goal

pub loop-k-preserved : goal.loop-k-preserved
loop-k-preserved c =
    shares_more (shape c.args.self.now) (has c.args.set) c.loop-k.k (has c.loop-k.found)
    (has c.with_if_met-found.result) (has c.excluded-excluded.result)
    c.excluded-excluded.ensures c.loop-k.invariant c.with_if_met-found.ensures
