use Rattle.std.proofs.Common.{ap, sym, ◌∙◌, length}
use Rattle.unit_sets.proofs.MaskLemmas as masks
use Rattle.unit_sets.proofs.unit_set.UnitSet.count.Goals as goal

pub returns : goal.returns
returns c = sym (masks.length-members _ c.self.invariant) ∙ ap length c.self.view_is
