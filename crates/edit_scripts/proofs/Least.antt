-- Of three kinds the least is reported, whichever two are compared first.
use Rattle.std.proofs.Common.{◌≡◌, Option, Some, None, refl, arith}
use Rattle.std.proofs.lemmas.Bool.Decides.{nat_tests}
use Rattle.text_lines.specs.edit_rules.declared.EditKind.{EditKind}
use Rattle.text_lines.specs.edit_rules.ScriptFault.{lesser}

lesser_none : (kind : Option EditKind) → lesser kind None ≡ kind
lesser_none None = refl
lesser_none (Some kind) = refl

pub lesser_assoc : (a b c : Option EditKind) → lesser (lesser a b) c ≡ lesser a (lesser b c)
lesser_assoc None b c = refl
lesser_assoc (Some a) None c = refl
lesser_assoc (Some a) (Some b) None = lesser_none (lesser (Some a) (Some b))
lesser_assoc (Some a) (Some b) (Some c) = grind (arith, nat_tests)
