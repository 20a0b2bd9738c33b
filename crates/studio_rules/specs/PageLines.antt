-- Lines of a text that is built into the program.
use Rattle.std.specs.Prelude.{◌≡◌, ℕ, List, [], ◌∷◌, ◌++◌, flat_map}

-- lines, each with its line feed
abbrev pub text_of : List (List ℕ) → List ℕ
text_of = flat_map (λ line. line ++ 10 ∷ [])

-- a text of whole lines
abbrev pub IsOfLines : List ℕ → Type 0
IsOfLines text = (lines : List (List ℕ)) × (text ≡ text_of lines)
