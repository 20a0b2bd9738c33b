use Rattle.std.proofs.Common.{◌∙◌, ◌||◌, ◌&&◌, not, ap, ap₂, Bool}
use Rattle.flow_rules.specs.number_sets.Sets.{has}
use Rattle.flow_rules.proofs.number_sets.Cited.{has-union, has-minus}
use Rattle.pgraph.proofs.ArcLemmas.{and_swap}
use Rattle.pgraph.proofs.graph.Graph.needed.Goals as goal

pub returns : goal.returns
returns c = λ i. λ x.
    (ap (λ xs. has xs x) c.union.ensures
    ∙ (has-union c.products.result c.minus.result x
    ∙ ap₂ (λ (a b : Bool). a || b) (ap (λ t. t x) c.products.ensures)
    (ap (λ xs. has xs x) c.minus.ensures
    ∙ (has-minus c.used.result c.raws.result x
    ∙ (and_swap (has c.used.result x) (not (has c.raws.result x))
    ∙ ap₂ (λ (a b : Bool). not a && b) (ap (λ t. t x) c.raws.ensures)
    (ap (λ t. t x) c.used.ensures)))))) i
