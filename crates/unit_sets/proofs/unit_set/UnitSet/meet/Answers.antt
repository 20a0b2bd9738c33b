use Rattle.std.proofs.Common.{ap₂, ◌∙◌}
use Rattle.number_sets.specs.Sets.{meet}
use Rattle.unit_sets.proofs.MaskLemmas as masks
use Rattle.unit_sets.proofs.unit_set.UnitSet.meet.Goals as goal

pub returns : goal.returns
returns c = masks.members-and _ _ c.self.invariant c.other.invariant
    ∙ ap₂ meet c.self.view_is c.other.view_is
