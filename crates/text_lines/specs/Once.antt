-- Names that are there once.
use Rattle.std.specs.Prelude.{ℕ, List, Option, Some, None, if◌then◌else◌}
use Rattle.edit_rules.specs.problem_rules.Names.{has_double}

-- the names, if none is there twice
abbrev pub once : List (List ℕ) → Option (List (List ℕ))
once names = if has_double names then None else Some names
