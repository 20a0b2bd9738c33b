use Rattle.std.proofs.Common.{◌∙◌, ◌||◌, ap, ap₂, Bool}
use Rattle.flow_rules.specs.number_sets.Sets.{has}
use Rattle.flow_rules.proofs.number_sets.Cited.{has-union}
use Rattle.pgraph.proofs.graph.Graph.materials.Goals as goal

pub returns : goal.returns
returns c = λ i. λ x.
    (ap (λ xs. has xs x) c.union.ensures
    ∙ (has-union c.used.result c.made.result x
    ∙ ap₂ (λ (a b : Bool). a || b) (ap (λ t. t x) c.used.ensures) (ap (λ t. t x) c.made.ensures))) i
