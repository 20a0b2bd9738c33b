-- `list FILE AFTER COUNT`: the clash-free solution structures after AFTER in the order of their
-- traces, at most COUNT of them (solution structure generation of Friedler, Tarjan, Huang and Fan
-- 1992).
use Rattle.std.specs.Prelude.{◌≡◌, ◌++◌, ℕ, List, [], ◌∷◌, Option, Some, None, codes, length, map}
use Rattle.std.specs.Prelude.{take, nat_lt, if◌then◌else◌}
use Rattle.report_rules.specs.number_sets.Sets.{has, IsRising}
use Rattle.report_rules.specs.problem_rules.Problem.{Problem, unit_names}
use Rattle.report_rules.specs.pns_rules.Shape.{Shape, shape_of}
use Rattle.report_rules.specs.pns_rules.Structure.{IsStructure}
use Rattle.report_rules.specs.pns_rules.Listing.{IsListing}
use Rattle.report_rules.specs.pns_rules.Tokens.{token_of}
use Rattle.studio_rules.specs.Lines.{spaced_names, names_in}
use Rattle.studio_rules.specs.declared.status.Status.{Status}
use Rattle.studio_rules.specs.declared.status.Status.TheVariants.{Done, BadToken}

-- where the listing begins: at its head for `start`, else after the solution structure, clash-free
-- or not, of the token
abbrev pub IsAfter : Shape → List ℕ → Option (List ℕ) → Type 0
IsAfter g word None = word ≡ codes "start"
IsAfter g word (Some s) = IsRising s × IsStructure g (has s) × (word ≡ token_of s)

-- the word is neither
abbrev pub IsBadToken : Shape → List ℕ → Type 0
IsBadToken g word = (after : Option (List ℕ)) → IsAfter g word after → ⊥

-- the token of a structure, and the names of its units in file order
abbrev pub structure_line : Problem → List ℕ → List ℕ
structure_line p s = token_of s ++ spaced_names (names_in (has s) 0 (unit_names p.units))

abbrev pub more_line : List ℕ → List ℕ
more_line s = codes "more " ++ token_of s

-- the last of some structures
abbrev pub last_of : List (List ℕ) → List ℕ
last_of [] = []
last_of (s ∷ []) = s
last_of (s ∷ t ∷ more) = last_of (t ∷ more)

-- `end` if no structure follows the first count, else `more` and the token of the last of them
abbrev pub last_line : ℕ → List (List ℕ) → List ℕ
last_line count all =
    if nat_lt count (length all) then more_line (last_of (take count all)) else codes "end"

-- the lines of a listing of which at most count structures are given
abbrev pub listing_lines : Problem → ℕ → List (List ℕ) → List (List ℕ)
listing_lines p count all = map (structure_line p) (take count all) ++ last_line count all ∷ []

abbrev pub ListingWork : List ℕ → ℕ → Problem → Status → List (List ℕ) → Type 0
ListingWork word count p Done lines =
    (after : Option (List ℕ)) × IsAfter (shape_of p) word after
    × ((all : List (List ℕ)) × IsListing (shape_of p) after all
    × (lines ≡ listing_lines p count all))
ListingWork word count p BadToken lines =
    IsBadToken (shape_of p) word × (lines ≡ codes "bad token" ∷ [])
ListingWork word count p status lines = ⊥
