use Rattle.std.proofs.Common.{◌∙◌, ap, ℕ}
use Rattle.pgraph.specs.Arcs.{joins}
use Rattle.pgraph.specs.Tables.{Tables}
use Rattle.pgraph.proofs.graph.Graph.consumers.Goals as goal

pub returns : goal.returns
returns c = c.units.ensures
    ∙ ap (λ (t : Tables). λ (u : ℕ). joins t.inputs u c.args.x) c.self.view_is
