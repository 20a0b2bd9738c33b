-- A law over the listing that `list` prints.
use Rattle.std.specs.Prelude.{◌<◌, ◌+◌, ◌++◌, ℕ, List, [], ◌∷◌, codes}
use Rattle.text_lines.specs.problem_rules.Problem.{Problem}
use Rattle.text_lines.specs.problem_rules.WellFormed.{IsWellFormed}
use Rattle.command_files.specs.studio_rules.Listing.{ListingWork}
use Rattle.command_files.specs.studio_rules.declared.status.Status.TheVariants.{Done}

-- A listing may be printed in two parts, the second after the last token of the first. The first
-- part without its line `more`, and then the second, are the listing printed at once.
abbrev pub PartsJoin : Type 0
PartsJoin =
    (p : Problem) (word token : List ℕ) (m n : ℕ) (first second : List (List ℕ)) → IsWellFormed p
    → 0 < m → 0 < n
    → ListingWork word m p Done (first ++ (codes "more " ++ token) ∷ [])
    → ListingWork token n p Done second
    → ListingWork word (m + n) p Done (first ++ second)
