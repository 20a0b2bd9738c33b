use Rattle.std.proofs.Common.{ap₂, ◌∙◌}
use Rattle.number_sets.specs.Sets.{minus}
use Rattle.unit_sets.proofs.HalfLemmas.{minus_halves}
use Rattle.unit_sets.proofs.mat_set.MatSet.minus.Goals as goal

pub returns : goal.returns
returns c =
    let s = c.self.inside in
    let t = c.other.inside in
    c.joined.ensures.value
    ∙ (minus_halves s.low s.high t.low t.high c.minus.result c.minus-2.result c.self.invariant
    c.other.invariant c.joined.ensures.is c.minus.ensures c.minus-2.ensures
    ∙ ap₂ minus c.self.view_is c.other.view_is)
