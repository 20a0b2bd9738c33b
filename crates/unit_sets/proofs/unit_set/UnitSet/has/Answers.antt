use Rattle.std.proofs.Common.{ap, sym, ◌∙◌}
use Rattle.number_sets.specs.Sets.{has}
use Rattle.unit_sets.proofs.MaskLemmas as masks
use Rattle.unit_sets.proofs.unit_set.UnitSet.has.Goals as goal

pub returns : goal.returns
returns c = masks.has_bit-shr _ _
    ∙ (sym (masks.has-members _ c.args.u c.self.invariant)
    ∙ ap (λ xs. has xs c.args.u) c.self.view_is)
