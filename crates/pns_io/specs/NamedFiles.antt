-- Files in memory, each with a name, of which the first of a name counts.
use Rattle.std.specs.Prelude.{ℕ, List, [], ◌∷◌, Option, Some, None, if◌then◌else◌, map, String, Vec}
use Rattle.std.specs.Prelude.{string_bytes, unwrap_or}
use Rattle.std.specs.Str.{bytes_eq}
use Rattle.std.specs.declared.alloc.Global.{Global}

-- the bytes of the first file of this name
abbrev pub file_of : List (List ℕ × List ℕ) → List ℕ → Option (List ℕ)
file_of [] name = None
file_of (file ∷ files) name = if bytes_eq file.0 name then Some file.1 else file_of files name

-- the same, but a name without a file is that of an empty file
abbrev pub file_or_empty : List (List ℕ × List ℕ) → List ℕ → List ℕ
file_or_empty files name = unwrap_or (file_of files name) []

-- a name and its bytes, without their addresses in memory
abbrev pub file_view : String Global × Vec ℕ Global → List ℕ × List ℕ
file_view file = (string_bytes file.0, file.1.items)

abbrev pub file_views : List (String Global × Vec ℕ Global) → List (List ℕ × List ℕ)
file_views = map file_view
