-- Names that are gathered one by one: the way in which the word UNITS is read.
use Rattle.std.specs.Prelude.{◌&&◌, ◌++◌, ℕ, List, [], ◌∷◌, Option, Some, None, not, if◌then◌else◌}
use Rattle.studio_rules.specs.problem_rules.Names.{is_name, is_among}

-- the names after those that are there, if each is a name and is not there before it
abbrev pub gathered : List (List ℕ) → List (List ℕ) → Option (List (List ℕ))
gathered seen [] = Some seen
gathered seen (name ∷ names) =
    if is_name name && not (is_among seen name) then gathered (seen ++ name ∷ []) names else None
