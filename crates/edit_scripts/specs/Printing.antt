-- The parts of the line of an edit: each field after a space. After the word come the place, the
-- names and the kind; then the amounts; then the sides, the units or the years.
use Rattle.std.specs.Prelude.{ℕ, List, [], ◌∷◌, ◌++◌, codes, decimal, flat_map, map, unsigned_abs}
use Rattle.std.specs.List.{fold}
use Rattle.text_lines.specs.edit_rules.Edit.{NamedTerm, Edit, price, bounds, kind, capacity, fix}
use Rattle.text_lines.specs.edit_rules.Edit.{proportional}
use Rattle.text_lines.specs.edit_rules.Edit.{rename_material, rename_unit, add_material}
use Rattle.text_lines.specs.edit_rules.Edit.{remove_material}
use Rattle.text_lines.specs.edit_rules.Edit.{add_unit, remove_unit, exclude, unexclude, investment}
use Rattle.text_lines.specs.edit_rules.Edit.{payout}
use Rattle.text_lines.specs.text_rules.Canonical.{kind_word}
use Rattle.text_lines.specs.text_rules.Printed.{amount_bytes}
use Rattle.text_lines.specs.edit_rules.Printed.{term_tokens, side_tokens, edit_line, printed}

-- the text with the fields appended
abbrev pub appended : List ℕ → List (List ℕ) → List ℕ
appended = fold (λ text field. text ++ 32 ∷ field)

abbrev pub head_of : Edit → List (List ℕ)
head_of (price material value) = material ∷ []
head_of (bounds material lower upper) = material ∷ []
head_of (kind material k) = material ∷ kind_word k ∷ []
head_of (capacity unit lower upper) = unit ∷ []
head_of (fix unit value) = unit ∷ []
head_of (proportional unit value) = unit ∷ []
head_of (rename_material old new) = old ∷ new ∷ []
head_of (rename_unit old new) = old ∷ new ∷ []
head_of (add_material at name k value lower upper) = decimal at ∷ name ∷ kind_word k ∷ []
head_of (remove_material material) = material ∷ []
head_of (add_unit at name lower upper fixed per_size inputs outputs) = decimal at ∷ name ∷ []
head_of (remove_unit unit) = unit ∷ []
head_of (exclude at name units) = decimal at ∷ name ∷ []
head_of (unexclude name) = name ∷ []
head_of (investment unit fixed per_size) = unit ∷ []
head_of (payout years) = []

abbrev pub amounts_of : Edit → List (List ℕ)
amounts_of (price material value) = amount_bytes value ∷ []
amounts_of (bounds material lower upper) = amount_bytes lower ∷ amount_bytes upper ∷ []
amounts_of (capacity unit lower upper) = amount_bytes lower ∷ amount_bytes upper ∷ []
amounts_of (fix unit value) = amount_bytes value ∷ []
amounts_of (proportional unit value) = amount_bytes value ∷ []
amounts_of (add_material at name k value lower upper) =
    amount_bytes value ∷ amount_bytes lower ∷ amount_bytes upper ∷ []
amounts_of (add_unit at name lower upper fixed per_size inputs outputs) =
    amount_bytes lower ∷ amount_bytes upper ∷ amount_bytes fixed ∷ amount_bytes per_size ∷ []
amounts_of (investment unit fixed per_size) = amount_bytes fixed ∷ amount_bytes per_size ∷ []
amounts_of edit = []

abbrev pub tail_of : Edit → List (List ℕ)
tail_of (add_unit at name lower upper fixed per_size inputs outputs) =
    codes ":" ∷ side_tokens inputs ++ codes "=>" ∷ side_tokens outputs
tail_of (exclude at name units) = units
tail_of (payout years) = decimal (unsigned_abs years) ∷ []
tail_of edit = []

-- the terms after the first of a side, each after a `+`
abbrev pub further_terms : List NamedTerm → List (List ℕ)
further_terms [] = []
further_terms (t ∷ ts) = codes "+" ∷ term_tokens t ++ further_terms ts

-- the lines of edits
abbrev pub edit_lines : List Edit → List ℕ
edit_lines edits = flat_map printed (map edit_line edits)
