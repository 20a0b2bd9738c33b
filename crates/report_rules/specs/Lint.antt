-- The warnings of a plant as lines, in the order of its text: by the line of the text, and on one
-- line by the order of the kinds.
use Rattle.std.specs.Prelude.{ℕ, ◌++◌, Bool, List, [], ◌∷◌, Option, Some, None, flat_map, codes}
use Rattle.std.specs.Prelude.{decimal}
use Rattle.rank_rules.specs.problem_rules.Problem.{Problem}
use Rattle.rank_rules.specs.text_rules.declared.Section.TheVariants.{OperatingUnits}
use Rattle.rank_rules.specs.text_rules.Line.{Placed, head_of, heads_at, lines_of, meant_of}
use Rattle.report_rules.specs.declared.item.Item.{Item}
use Rattle.report_rules.specs.declared.warning.Warning.{Warning}
use Rattle.report_rules.specs.Item.{item_at, name_of, warnings_of}
use Rattle.report_rules.specs.Words.{kind_word, sentence}

-- `line L KIND NAME`
abbrev pub first_line : ℕ → List ℕ → Warning → List ℕ
first_line number name kind =
    codes "line " ++ (decimal number ++ 32 ∷ (kind_word kind ++ 32 ∷ name))

-- the two lines of a warning of this kind, of the item of this name, at the line of this number
abbrev pub warning_lines : ℕ → List ℕ → Warning → List (List ℕ)
warning_lines number name kind = first_line number name kind ∷ (32 ∷ 32 ∷ sentence kind) ∷ []

abbrev pub item_lines : Problem → (ℕ → Bool) → ℕ → Option Item → List (List ℕ)
item_lines p s number None = []
item_lines p s number (Some item) =
    flat_map (warning_lines number (name_of p item)) (warnings_of p s item)

-- those of the item that a line of the text is of; `own` are the names of the units that have a
-- line of their own
abbrev pub line_lines : Problem → (ℕ → Bool) → List (List ℕ) → Placed → List (List ℕ)
line_lines p s own line =
    item_lines p s line.number (item_at p own line.section (head_of line.text))

-- those of all lines
abbrev pub all_lines : Problem → (ℕ → Bool) → List Placed → List (List ℕ)
all_lines p s lines = flat_map (line_lines p s (heads_at OperatingUnits lines)) lines

-- the one line `clean` in place of none
abbrev pub clean_or : List (List ℕ) → List (List ℕ)
clean_or [] = codes "clean" ∷ []
clean_or (line ∷ lines) = line ∷ lines

-- what is printed of the problem that a text stands for; `s` are the units of its maximal structure
abbrev pub lint_lines : Problem → (ℕ → Bool) → List ℕ → List (List ℕ)
lint_lines p s bytes = clean_or (all_lines p s (meant_of (lines_of bytes)))
