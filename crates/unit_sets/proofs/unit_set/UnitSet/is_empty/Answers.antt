use Rattle.std.proofs.Common.{ap, sym, ◌∙◌, eqb-true, eq-eqb, lit<}
use Rattle.unit_sets.specs.Masks.{members}
use Rattle.unit_sets.proofs.MaskLemmas as masks
use Rattle.unit_sets.proofs.unit_set.UnitSet.is_empty.Goals as goal

pub returns : goal.returns
returns c = (
  λ e. sym c.self.view_is ∙ (ap members (eqb-true c.self.inside.bits 0 e) ∙ masks.members-zero),
  λ e. eq-eqb c.self.inside.bits 0
      (masks.same_masks c.self.inside.bits 0 c.self.invariant (lit< tt)
      (c.self.view_is ∙ (e ∙ sym masks.members-zero))),
)
