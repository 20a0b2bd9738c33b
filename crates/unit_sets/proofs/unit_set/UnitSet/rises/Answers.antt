use Rattle.std.proofs.Common.{subst}
use Rattle.number_sets.specs.Sets.{IsSet}
use Rattle.unit_sets.proofs.MaskLemmas.{IsRising-members, AreBelow-members}
use Rattle.unit_sets.proofs.unit_set.UnitSet.rises.Goals as goal

pub returns : goal.returns
returns c =
    subst (IsSet 128) c.self.view_is record {
      rising = IsRising-members c.self.inside.bits;
      below =
          AreBelow-members c.self.inside.bits;
    }
