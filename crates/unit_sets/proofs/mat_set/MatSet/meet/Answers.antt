use Rattle.std.proofs.Common.{ap₂, ◌∙◌}
use Rattle.number_sets.specs.Sets.{meet}
use Rattle.unit_sets.proofs.HalfLemmas.{meet_halves}
use Rattle.unit_sets.proofs.mat_set.MatSet.meet.Goals as goal

pub returns : goal.returns
returns c =
    let s = c.self.inside in
    let t = c.other.inside in
    c.joined.ensures.value
    ∙ (meet_halves s.low s.high t.low t.high c.meet.result c.meet-2.result c.self.invariant
    c.other.invariant c.joined.ensures.is c.meet.ensures c.meet-2.ensures
    ∙ ap₂ meet c.self.view_is c.other.view_is)
