-- Items of a line, each split once.
use Rattle.std.specs.Prelude.{◌≡◌, ℕ, ℤ, Bool, List, Result}
use Rattle.text_lines.specs.problem_rules.Names.{is_among}
use Rattle.text_lines.specs.text_rules.declared.TextKind.{TextKind}
use Rattle.text_lines.specs.text_rules.Amount.{amount_of}
use Rattle.text_lines.specs.text_rules.Field.{has_key, key_of, kind_words}
use Rattle.text_lines.specs.text_rules.Fault.{field_value}

-- an item split at its first equals sign, with the number that its value spells
pub record IsCut (text : List ℕ) (has : Bool) (is_word : Bool) (front : List ℕ) (behind : List ℕ)
    (number : Result ℤ TextKind) : Type 0 where
  pub has_key : has ≡ has_key text
  pub kind_word : is_word ≡ is_among kind_words text
  pub key : front ≡ key_of text
  pub value : behind ≡ field_value text
  pub amount : number ≡ amount_of (field_value text)
