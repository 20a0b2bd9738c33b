-- How a line is made: each field follows a space.
use Rattle.std.specs.Prelude.{ℕ, List, [], ◌∷◌, ◌++◌}

-- the text after the fields were appended
abbrev pub appended : List ℕ → List (List ℕ) → List ℕ
appended text [] = text
appended text (field ∷ fields) = appended (text ++ 32 ∷ field) fields
