-- Units that are twice in an exclusion.
use Rattle.std.proofs.Common.{◌≡◌, ℕ, Bool, true, false, not, List, Option, Some, None, is_none}
use Rattle.std.proofs.Common.{if◌then◌else◌, refl, ap, ◌∙◌}
use Rattle.text_lines.specs.problem_rules.Names.{has_double}
use Rattle.text_lines.specs.Once.{once}
use Rattle.text_lines.specs.edit_rules.declared.EditKind.TheVariants.{BadMembers}
use Rattle.text_lines.specs.edit_rules.ScriptFault.{members_fault}

told_by : (b : Bool) (names : List (List ℕ))
    → (if is_none (if b then None else Some names) then Some BadMembers else None)
    ≡ (if not b then None else Some BadMembers)
told_by true names = refl
told_by false names = refl

pub members_told : (found : Option (List (List ℕ))) (names : List (List ℕ)) → found ≡ once names
    → (if is_none found then Some BadMembers else None) ≡ members_fault names
members_told found names e =
    ap (λ (o : Option (List (List ℕ))). if is_none o then Some BadMembers else None) e
    ∙ told_by (has_double names) names
