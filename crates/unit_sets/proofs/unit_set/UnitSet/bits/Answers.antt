use Rattle.unit_sets.proofs.MaskLemmas as masks
use Rattle.unit_sets.proofs.unit_set.UnitSet.bits.Goals as goal

pub returns : goal.returns
returns c = masks.members-mask_of _ _ c.self.invariant c.self.view_is
