use Rattle.std.proofs.Common.{ap₂, ◌∙◌}
use Rattle.number_sets.specs.Sets.{union}
use Rattle.unit_sets.proofs.HalfLemmas.{union_halves}
use Rattle.unit_sets.proofs.mat_set.MatSet.union.Goals as goal

pub returns : goal.returns
returns c =
    let s = c.self.inside in
    let t = c.other.inside in
    c.joined.ensures.value
    ∙ (union_halves s.low s.high t.low t.high c.union.result c.union-2.result c.self.invariant
    c.other.invariant c.joined.ensures.is c.union.ensures c.union-2.ensures
    ∙ ap₂ union c.self.view_is c.other.view_is)
