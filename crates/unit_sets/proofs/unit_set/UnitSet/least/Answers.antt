use Rattle.std.proofs.Common.{ap, sym, ◌∙◌, arith}
use Rattle.number_sets.specs.Sets.{first}
use Rattle.unit_sets.specs.Masks.{members}
use Rattle.unit_sets.proofs.MaskLemmas as masks
use Rattle.unit_sets.proofs.unit_set.UnitSet.least.Goals as goal

pub returns-then-self-eq0 : goal.returns-then-self-eq0
returns-then-self-eq0 c = ap first (sym masks.members-zero)
    ∙ (ap (λ n. first (members n)) (sym c.if-self-eq0.true) ∙ ap first c.self.view_is)

pub returns-else-self-eq0 : goal.returns-else-self-eq0
returns-else-self-eq0 c = sym (masks.first-members _ (omega arith) c.self.invariant)
    ∙ ap first c.self.view_is
