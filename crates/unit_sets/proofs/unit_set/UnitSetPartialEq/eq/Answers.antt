use Rattle.std.proofs.Common.{ap, sym, ◌∙◌, eqb-true, eq-eqb, nat_eq, bytes_eq}
use Rattle.std.specs.Cmp.Lexicographic.{bytes_decides}
use Rattle.number_sets.proofs.Cited.{same_tests}
use Rattle.unit_sets.specs.Masks.{members}
use Rattle.unit_sets.proofs.MaskLemmas as masks
use Rattle.unit_sets.proofs.unit_set.UnitSetPartialEq.eq.Goals as goal

pub returns : goal.returns
returns c =
    same_tests (nat_eq c.self.inside.bits c.other.inside.bits)
    (bytes_eq c.args.self.now c.args.other.now)
    (λ e. (bytes_decides c.args.self.now c.args.other.now).1
    (sym c.self.view_is
    ∙ (ap members (eqb-true c.self.inside.bits c.other.inside.bits e) ∙ c.other.view_is)))
    (λ e. eq-eqb c.self.inside.bits c.other.inside.bits
    (masks.same_masks _ _ c.self.invariant c.other.invariant
    (c.self.view_is
    ∙ ((bytes_decides c.args.self.now c.args.other.now).0 e ∙ sym c.other.view_is))))
