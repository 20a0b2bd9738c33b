use Rattle.unit_sets.proofs.MaskLemmas as masks
use Rattle.unit_sets.proofs.unit_set.UnitSet.empty.Goals as goal

pub returns : goal.returns
returns c = masks.members-zero
