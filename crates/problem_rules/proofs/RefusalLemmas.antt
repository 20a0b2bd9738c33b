-- Chains of refusals that refuse nothing.
use Rattle.std.proofs.Common.{◌≡◌, ℕ, Bool, true, false, Option, Some, None, refl, ap, ◌∙◌}
use Rattle.problem_rules.specs.Validity.{Refusal, FaultKind, or_else, refuse_if}

pub or_else_parts : (first rest : Option Refusal) → or_else first rest ≡ None → (first ≡ None)
    × (rest ≡ None)
or_else_parts (Some r) rest e = cc
or_else_parts None rest e = (refl, e)

pub or_else_none : (first rest : Option Refusal) → first ≡ None → rest ≡ None
    → or_else first rest ≡ None
or_else_none first rest e g = ap (λ first. or_else first rest) e ∙ g

pub refuse_parts : (at : ℕ) (kind : FaultKind) (test : Bool) (rest : Option Refusal)
    → refuse_if at kind test rest ≡ None → (test ≡ false) × (rest ≡ None)
refuse_parts at kind true rest e = cc
refuse_parts at kind false rest e = (refl, e)

pub refuse_none : (at : ℕ) (kind : FaultKind) (test : Bool) (rest : Option Refusal) → test ≡ false
    → rest ≡ None → refuse_if at kind test rest ≡ None
refuse_none at kind test rest e g = ap (λ test. refuse_if at kind test rest) e ∙ g
