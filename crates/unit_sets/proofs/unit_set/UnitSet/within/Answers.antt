use Rattle.std.proofs.Common.{sym, subst₂}
use Rattle.number_sets.specs.Sets.{has, IsWithin}
use Rattle.unit_sets.proofs.MaskLemmas as masks
use Rattle.unit_sets.proofs.unit_set.UnitSet.within.Goals as goal

pub returns : goal.returns
returns c = (
  λ e. subst₂ (λ xs ys. IsWithin (has xs) (has ys)) c.self.view_is c.other.view_is
      (masks.within_masks _ _ c.self.invariant c.other.invariant e),
  λ w. masks.masks_within _ _ c.self.invariant c.other.invariant
      (subst₂ (λ xs ys. IsWithin (has xs) (has ys)) (sym c.self.view_is) (sym c.other.view_is) w),
)
