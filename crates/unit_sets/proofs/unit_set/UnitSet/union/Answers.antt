use Rattle.std.proofs.lemmas.Nat.{or_lt}
use Rattle.std.proofs.Common.{ap₂, ◌∙◌}
use Rattle.number_sets.specs.Sets.{union}
use Rattle.unit_sets.proofs.MaskLemmas as masks
use Rattle.unit_sets.proofs.unit_set.UnitSet.union.Goals as goal

pub invariant_of-result : goal.invariant_of-result
invariant_of-result c = or_lt 128 _ _ c.self.invariant c.other.invariant

pub returns : goal.returns
returns c = masks.members-or _ _ c.self.invariant c.other.invariant
    ∙ ap₂ union c.self.view_is c.other.view_is
