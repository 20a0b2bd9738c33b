use Rattle.std.proofs.Common.{◌∙◌, ap, ap₂}
use Rattle.flow_rules.specs.number_sets.Sets.{union, minus}
use Rattle.pgraph.specs.Tables.{shape}
use Rattle.pgraph.proofs.AxiomLemmas.{breaks_s2_is}
use Rattle.pgraph.proofs.graph.Graph.breaking_s2.Goals as goal

pub returns : goal.returns
returns c =
    breaks_s2_is (shape c.args.self.now) c.args.set c.raws-raws.result c.made-made.result
    c.used.result c.union-2.result c.raws-raws.ensures c.made-made.ensures c.used.ensures
    (c.union-2.ensures
    ∙ ap₂ union c.meet.ensures (c.minus.ensures ∙ ap (minus c.used.result) c.union.ensures))
