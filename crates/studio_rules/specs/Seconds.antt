-- Second lines: help for people, which follows the first line. Their wording is not promised.
use Rattle.std.specs.Prelude.{◌≡◌, ◌≤◌, ℕ, List, ◌∷◌}
use Rattle.report_rules.specs.problem_rules.Each.{Each}
use Rattle.studio_rules.specs.Lines.{text_of}

-- a line that begins with two blanks, of printable bytes alone
abbrev pub IsSecond : List ℕ → Type 0
IsSecond line = (rest : List ℕ) × (line ≡ 32 ∷ 32 ∷ rest)
    × Each (λ byte. (32 ≤ byte) × (byte ≤ 126)) rest

-- some such lines, one after another, each with its line feed
abbrev pub AreSeconds : List ℕ → Type 0
AreSeconds text = (lines : List (List ℕ)) × Each IsSecond lines × (text ≡ text_of lines)
