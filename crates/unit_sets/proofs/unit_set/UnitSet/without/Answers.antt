use Rattle.std.proofs.Common.{ap, ◌∙◌, not, ◌==◌}
use Rattle.number_sets.specs.Sets.{kept}
use Rattle.unit_sets.proofs.MaskLemmas as masks
use Rattle.unit_sets.proofs.unit_set.UnitSet.without.Goals as goal

pub returns : goal.returns
returns c = masks.members-without _ _ c.self.invariant c.requires
    ∙ ap (kept (λ v. not (c.args.u == v))) c.self.view_is
