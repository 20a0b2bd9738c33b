-- A table in which words are looked up.
use Rattle.std.specs.Prelude.{ℕ, List, [], ◌∷◌, Option, Some, None, if◌then◌else◌}
use Rattle.std.specs.Borrow.{Bor}
use Rattle.std.specs.Str.{bytes_eq}

-- the value in the first row whose name is the text
abbrev pub looked_up : {W : Type 0} → List (Bor (List ℕ) × W) → List ℕ → Option W
looked_up [] text = None
looked_up (row ∷ rows) text = if bytes_eq text row.0.now then Some row.1 else looked_up rows text
