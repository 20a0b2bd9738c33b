-- The lines of the rest of a text.
use Rattle.std.specs.Prelude.{◌≡◌, ◌==◌, ◌⊎◌, ℕ, false, List, [], ◌∷◌, map}
use Rattle.std.specs.List.{slice_split}
use Rattle.std.specs.Str.{bytes_eq}
use Rattle.edit_rules.specs.text_rules.Blanks.{trim}
use Rattle.edit_rules.specs.text_rules.Line.{without_return, without_empty_last, without_remark}
use Rattle.edit_rules.specs.Line.{script_lines}
use Rattle.text_lines.specs.declared.lines.Drops.{Drops}
use Rattle.text_lines.specs.declared.lines.Drops.TheVariants.{Return, ReturnAndBlanks}

-- A line without the carriage return at its end, empty if it is a remark, and then without blanks
-- at both ends.
abbrev pub cleaned : List ℕ → List ℕ
cleaned part = trim (without_remark (without_return part))

-- the lines of a text after its byte order mark, or of the rest after some lines
abbrev pub lines_from : List ℕ → List (List ℕ)
lines_from rest = map cleaned (without_empty_last (slice_split (λ c. c == 10) rest))

-- a line, and the lines of the rest, by what is dropped at their ends
abbrev pub line_by : Drops → List ℕ → List ℕ
line_by Return part = without_remark (without_return part)
line_by ReturnAndBlanks part = cleaned part

abbrev pub lines_by : Drops → List ℕ → List (List ℕ)
lines_by Return rest = script_lines rest
lines_by ReturnAndBlanks rest = lines_from rest

-- the lines that remain, and the number of the first of them
pub record Coming : Type 0 where
  pub number : ℕ
  pub lines : List (List ℕ)

-- there is no first line that is the file type
abbrev pub IsUntyped : List ℕ → List (List ℕ) → Type 0
IsUntyped file_type lines = (lines ≡ [])
    ⊎ ((first : List ℕ) × (rest : List (List ℕ)) × (lines ≡ first ∷ rest)
    × (bytes_eq first file_type ≡ false))
