-- The new numbers of items, after one was inserted or removed, as the rules have them.
use Rattle.std.specs.Prelude.{ℕ}
use Rattle.edit_laws.specs.edit_rules.Numbering.{up, down}
use Rattle.pns_edits.specs.declared.numbering.Renumbering.{Renumbering}
use Rattle.pns_edits.specs.declared.numbering.Renumbering.TheVariants.{PutIn, TakenOut}

abbrev pub new_number : Renumbering → ℕ → ℕ
new_number (PutIn k) = up k
new_number (TakenOut k) = down k
