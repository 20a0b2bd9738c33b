use Rattle.std.proofs.Common.{sym, ap, ◌∙◌, subst, arith}
use Rattle.number_sets.specs.Sets.{IsSet}
use Rattle.unit_sets.specs.Masks.{members}
use Rattle.unit_sets.proofs.MaskLemmas.{members-zero}
use Rattle.unit_sets.proofs.TakeLemmas.{IsSet-members, taken-members}
use Rattle.unit_sets.proofs.unit_set.UnitSet.take_least.Goals as goal

pub returns-then-bits-eq0-clause-taken : goal.returns-then-bits-eq0-clause-taken
returns-then-bits-eq0-clause-taken c = let e =
    sym c.self.view_is ∙ (ap members c.if-bits-eq0.true ∙ members-zero) in (e, e)

pub returns-then-bits-eq0-clause-rises : goal.returns-then-bits-eq0-clause-rises
returns-then-bits-eq0-clause-rises c =
    subst (IsSet 128) c.self.view_is (IsSet-members c.self.inside.bits)

pub returns-then-bits-eq0-clause-left : goal.returns-then-bits-eq0-clause-left
returns-then-bits-eq0-clause-left c =
    subst (IsSet 128) c.self.view_is (IsSet-members c.self.inside.bits)

pub returns-clause-taken : goal.returns-clause-taken
returns-clause-taken c = let more = c.if-bits-eq0.false in sym c.self.view_is
    ∙ taken-members c.self.inside.bits (omega arith) c.self.invariant

pub returns-clause-rises : goal.returns-clause-rises
returns-clause-rises c = subst (IsSet 128) c.self.view_is (IsSet-members c.self.inside.bits)

pub returns-clause-left : goal.returns-clause-left
returns-clause-left c = IsSet-members _
