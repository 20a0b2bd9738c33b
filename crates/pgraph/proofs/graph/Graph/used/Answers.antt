use Rattle.std.proofs.Common.{◌∙◌, ◌&&◌, ap, refl, ℕ}
use Rattle.flow_rules.specs.number_sets.Sets.{has, any_below}
use Rattle.flow_rules.specs.pns_rules.Structure.{is_used}
use Rattle.pgraph.specs.Arcs.{joins}
use Rattle.pgraph.specs.Tables.{Tables, shape}
use Rattle.pgraph.proofs.graph.Graph.used.Goals as goal

pub returns : goal.returns
returns c =
    c.materials_of.ensures
    ∙ (ap (λ n. λ (x : ℕ). any_below n (λ u. has c.args.set u && joins c.self.inside.inputs u x))
    refl
    ∙ ap (λ (t : Tables). λ (x : ℕ). is_used (shape t) (has c.args.set) x) c.self.view_is)
