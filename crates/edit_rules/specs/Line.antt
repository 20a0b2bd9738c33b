-- The lines of a script and their tokens. Lines end with a line feed; a carriage return directly
-- before it is dropped, and the last line feed may be missing. A line whose first byte other than a
-- blank is a number sign is a remark, and becomes an empty line. Nothing else is dropped, neither a
-- byte order mark nor blanks. Tokens are separated by one space, so a space at an end of a line or
-- next to another space makes a token without bytes, which no good line has.
use Rattle.std.specs.Prelude.{◌==◌, ℕ, Bool, List, map, codes, Option, Some, None, if◌then◌else◌}
use Rattle.std.specs.List.{slice_split}
use Rattle.std.specs.Str.{bytes_eq}
use Rattle.text_rules.specs.Line.{without_return, without_empty_last, without_remark}
use Rattle.edit_rules.specs.declared.Word.{Word}
use Rattle.edit_rules.specs.declared.Word.TheVariants.{Price, Bounds, Kind, Capacity, Fix}
use Rattle.edit_rules.specs.declared.Word.TheVariants.{Proportional, RenameMaterial, RenameUnit}
use Rattle.edit_rules.specs.declared.Word.TheVariants.{AddMaterial, RemoveMaterial, AddUnit}
use Rattle.edit_rules.specs.declared.Word.TheVariants.{RemoveUnit, Exclude, Unexclude, Investment}
use Rattle.edit_rules.specs.declared.Word.TheVariants.{Payout}

-- the whole first line
abbrev pub file_type : List ℕ
file_type = codes "file_type=PNS_edits_v1"

abbrev pub is_feed : ℕ → Bool
is_feed c = c == 10

abbrev pub script_lines : List ℕ → List (List ℕ)
script_lines bytes =
    map (λ part. without_remark (without_return part))
    (without_empty_last (slice_split is_feed bytes))

abbrev pub is_space : ℕ → Bool
is_space c = c == 32

abbrev pub tokens_of : List ℕ → List (List ℕ)
tokens_of text = slice_split is_space text

-- the first token of a line
abbrev pub word_text : Word → List ℕ
word_text Price = codes "price"
word_text Bounds = codes "bounds"
word_text Kind = codes "kind"
word_text Capacity = codes "capacity"
word_text Fix = codes "fix"
word_text Proportional = codes "proportional"
word_text RenameMaterial = codes "rename_material"
word_text RenameUnit = codes "rename_unit"
word_text AddMaterial = codes "add_material"
word_text RemoveMaterial = codes "remove_material"
word_text AddUnit = codes "add_unit"
word_text RemoveUnit = codes "remove_unit"
word_text Exclude = codes "exclude"
word_text Unexclude = codes "unexclude"
word_text Investment = codes "investment"
word_text Payout = codes "payout"

abbrev pub word_named : List ℕ → Option Word
word_named text =
    if bytes_eq text (word_text Price) then Some Price
    else if bytes_eq text (word_text Bounds) then Some Bounds
    else if bytes_eq text (word_text Kind) then Some Kind
    else if bytes_eq text (word_text Capacity) then Some Capacity
    else if bytes_eq text (word_text Fix) then Some Fix
    else if bytes_eq text (word_text Proportional) then Some Proportional
    else if bytes_eq text (word_text RenameMaterial) then Some RenameMaterial
    else if bytes_eq text (word_text RenameUnit) then Some RenameUnit
    else if bytes_eq text (word_text AddMaterial) then Some AddMaterial
    else if bytes_eq text (word_text RemoveMaterial) then Some RemoveMaterial
    else if bytes_eq text (word_text AddUnit) then Some AddUnit
    else if bytes_eq text (word_text RemoveUnit) then Some RemoveUnit
    else if bytes_eq text (word_text Exclude) then Some Exclude
    else if bytes_eq text (word_text Unexclude) then Some Unexclude
    else if bytes_eq text (word_text Investment) then Some Investment
    else if bytes_eq text (word_text Payout) then Some Payout
    else None
