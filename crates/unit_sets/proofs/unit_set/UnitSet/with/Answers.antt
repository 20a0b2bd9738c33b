use Rattle.std.proofs.Common.{ap, ◌∙◌}
use Rattle.number_sets.specs.Sets.{with_number}
use Rattle.unit_sets.proofs.MaskLemmas as masks
use Rattle.unit_sets.proofs.unit_set.UnitSet.with.Goals as goal

pub invariant_of-result : goal.invariant_of-result
invariant_of-result c = masks.with_lt _ _ c.self.invariant c.requires

pub returns : goal.returns
returns c = masks.members-with _ _ c.self.invariant c.requires
    ∙ ap (with_number c.args.u) c.self.view_is
