use Rattle.std.proofs.Common.{◌∙◌, ◌&&◌, ap, ℕ}
use Rattle.flow_rules.specs.number_sets.Sets.{has, any_below}
use Rattle.flow_rules.specs.pns_rules.Structure.{is_made}
use Rattle.pgraph.specs.Arcs.{joins}
use Rattle.pgraph.specs.Tables.{Tables, shape}
use Rattle.pgraph.proofs.graph.Graph.made.Goals as goal

pub returns : goal.returns
returns c =
    c.materials_of.ensures
    ∙ (ap (λ n. λ (x : ℕ). any_below n (λ u. has c.args.set u && joins c.self.inside.outputs u x))
    c.self.invariant.same_units
    ∙ ap (λ (t : Tables). λ (x : ℕ). is_made (shape t) (has c.args.set) x) c.self.view_is)
