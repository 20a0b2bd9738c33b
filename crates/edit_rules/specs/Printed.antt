-- The text that is printed of a script: its first line, then one line for each edit, in their
-- order. Amounts are as in the canonical text of a problem, and a rate of 1 is left out.
use Rattle.std.specs.Prelude.{◌==◌, ℕ, List, [], ◌∷◌, ◌++◌, map, flat_map, codes, decimal}
use Rattle.std.specs.Prelude.{unsigned_abs, if◌then◌else◌}
use Rattle.edit_rules.specs.Edit.{NamedTerm, Edit, price, bounds, kind, capacity, fix, proportional}
use Rattle.edit_rules.specs.Edit.{rename_material, rename_unit, add_material, remove_material}
use Rattle.edit_rules.specs.Edit.{add_unit, remove_unit, exclude, unexclude, investment, payout}
use Rattle.text_rules.specs.Canonical.{joined, kind_word}
use Rattle.text_rules.specs.Printed.{amount_bytes}
use Rattle.edit_rules.specs.declared.Word.{Word}
use Rattle.edit_rules.specs.declared.Word.TheVariants as words
use Rattle.edit_rules.specs.Line.{file_type, word_text}

abbrev pub word_of : Edit → Word
word_of (price material value) = words.Price
word_of (bounds material lower upper) = words.Bounds
word_of (kind material k) = words.Kind
word_of (capacity unit lower upper) = words.Capacity
word_of (fix unit value) = words.Fix
word_of (proportional unit value) = words.Proportional
word_of (rename_material old new) = words.RenameMaterial
word_of (rename_unit old new) = words.RenameUnit
word_of (add_material at name k value lower upper) = words.AddMaterial
word_of (remove_material material) = words.RemoveMaterial
word_of (add_unit at name lower upper fixed per_size inputs outputs) = words.AddUnit
word_of (remove_unit unit) = words.RemoveUnit
word_of (exclude at name units) = words.Exclude
word_of (unexclude name) = words.Unexclude
word_of (investment unit fixed per_size) = words.Investment
word_of (payout years) = words.Payout

abbrev pub term_tokens : NamedTerm → List (List ℕ)
term_tokens t = if unsigned_abs t.rate == 1000000 then t.name ∷ [] else amount_bytes t.rate ∷ t.name
    ∷ []

abbrev pub side_tokens : List NamedTerm → List (List ℕ)
side_tokens terms = joined (codes "+") (map term_tokens terms)

-- the tokens after the first
abbrev pub fields_of : Edit → List (List ℕ)
fields_of (price material value) = material ∷ amount_bytes value ∷ []
fields_of (bounds material lower upper) = material ∷ amount_bytes lower ∷ amount_bytes upper ∷ []
fields_of (kind material k) = material ∷ kind_word k ∷ []
fields_of (capacity unit lower upper) = unit ∷ amount_bytes lower ∷ amount_bytes upper ∷ []
fields_of (fix unit value) = unit ∷ amount_bytes value ∷ []
fields_of (proportional unit value) = unit ∷ amount_bytes value ∷ []
fields_of (rename_material old new) = old ∷ new ∷ []
fields_of (rename_unit old new) = old ∷ new ∷ []
fields_of (add_material at name k value lower upper) =
    decimal at ∷ name ∷ kind_word k ∷ amount_bytes value ∷ amount_bytes lower ∷ amount_bytes upper
    ∷ []
fields_of (remove_material material) = material ∷ []
fields_of (add_unit at name lower upper fixed per_size inputs outputs) =
    decimal at ∷ name ∷ amount_bytes lower ∷ amount_bytes upper ∷ amount_bytes fixed
    ∷ amount_bytes per_size ∷ codes ":"
    ∷ side_tokens inputs ++ codes "=>" ∷ side_tokens outputs
fields_of (remove_unit unit) = unit ∷ []
fields_of (exclude at name units) = decimal at ∷ name ∷ units
fields_of (unexclude name) = name ∷ []
fields_of (investment unit fixed per_size) = unit ∷ amount_bytes fixed ∷ amount_bytes per_size ∷ []
fields_of (payout years) = decimal (unsigned_abs years) ∷ []

abbrev pub edit_tokens : Edit → List (List ℕ)
edit_tokens edit = word_text (word_of edit) ∷ fields_of edit

-- the tokens, separated by a space
abbrev pub edit_line : Edit → List ℕ
edit_line edit = joined 32 (edit_tokens edit)

abbrev pub printed : List ℕ → List ℕ
printed line = line ++ 10 ∷ []

abbrev pub script_text : List Edit → List ℕ
script_text edits = flat_map printed (file_type ∷ map edit_line edits)
