use Rattle.std.proofs.Common.{◌∙◌, ap, ℕ, List, ◌||◌, ◌&&◌}
use Rattle.pgraph.specs.number_sets.Sets.{has}
use Rattle.pgraph.proofs.number_sets.Cited.{has-union, has-meet}
use Rattle.flow_program.proofs.feasibility.units_with.Goals as goal

pub returns : goal.returns
returns c =
    λ u. ap (λ (xs : List ℕ). has xs u) c.meet.ensures ∙ has-meet c.union.result c.args.set u
    ∙ ap (λ b. b && has c.args.set u)
    (ap (λ (xs : List ℕ). has xs u) c.union.ensures
    ∙ has-union c.producers.result c.consumers.result u
    ∙ (λ i. c.producers.ensures i u || c.consumers.ensures i u))
