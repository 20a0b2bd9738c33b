-- JSON text (RFC 8259), made from its pieces.
use Rattle.std.specs.Prelude.{◌==◌, ◌||◌, ℕ, Bool, List, [], ◌∷◌, ◌++◌, flat_map, codes}
use Rattle.std.specs.Prelude.{if◌then◌else◌}

-- ---- in one line

-- a byte of a string: a quotation mark and a backslash have a backslash before them
abbrev pub escaped : ℕ → List ℕ
escaped c = if c == 34 || c == 92 then 92 ∷ c ∷ [] else c ∷ []

-- printable bytes as a string
abbrev pub quoted : List ℕ → List ℕ
quoted bytes = 34 ∷ flat_map escaped bytes ++ 34 ∷ []

abbrev pub null : List ℕ
null = codes "null"

abbrev pub truth : Bool → List ℕ
truth holds = if holds then codes "true" else codes "false"

-- the pieces, with a comma and a space between each two
abbrev pub parted : List (List ℕ) → List ℕ
parted [] = []
parted (piece ∷ pieces) = piece ++ flat_map (λ next. 44 ∷ 32 ∷ next) pieces

abbrev pub array : List (List ℕ) → List ℕ
array values = 91 ∷ parted values ++ 93 ∷ []

-- a value under its key, and an object of such members
abbrev pub member : List ℕ → List ℕ → List ℕ
member key value = quoted key ++ 58 ∷ 32 ∷ value

abbrev pub object : List (List ℕ) → List ℕ
object members = 123 ∷ parted members ++ 125 ∷ []

-- ---- in several lines

abbrev pub with_comma : List ℕ → List ℕ
with_comma piece = piece ++ 44 ∷ []

-- a line for each piece, with a comma after each but the last
abbrev pub comma_lines : List (List ℕ) → List (List ℕ)
comma_lines [] = []
comma_lines (piece ∷ []) = piece ∷ []
comma_lines (piece ∷ next ∷ pieces) = with_comma piece ∷ comma_lines (next ∷ pieces)

-- an array under its key with a line for each value, and a comma after the whole
abbrev pub array_lines : List ℕ → List (List ℕ) → List (List ℕ)
array_lines key values =
    (quoted key ++ 58 ∷ 32 ∷ 91 ∷ []) ∷ (comma_lines values ++ (93 ∷ 44 ∷ []) ∷ [])
