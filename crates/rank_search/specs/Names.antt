-- Which plant a leaf names: the first that each structure of the leaf contains, and that costs no
-- more than what the multipliers of the leaf are known to reach.
use Rattle.std.specs.Prelude.{◌≡◌, ℕ, ◌+◌, ◌<◌, List, length, Option, Some, None}
use Rattle.rank_check.specs.exact_numbers.declared.number.Mixed.{Mixed}
use Rattle.abb_search.specs.search_tree.Cells.{Cell, cell_at}
use Rattle.rank_search.specs.Found.{FoundAt}
use Rattle.rank_search.specs.Naming.{Names, name_at}
use Rattle.rank_search.specs.Plants.{IsFirstInside, NoneInside}
use Rattle.rank_search.specs.Listing.{reached_of}

-- if a cost is known, the name is that of a plant inside; if it has no name, none is inside
abbrev pub IsNameFor : List FoundAt → List ℕ → Option Mixed → Option ℕ → Type 0
IsNameFor fs inside None name = name ≡ None
IsNameFor fs inside (Some value) None = NoneInside fs inside value
IsNameFor fs inside (Some value) (Some k) =
    (at : ℕ) × (k ≡ 1 + at) × IsFirstInside fs inside value at

pub record AreNamesFor (cells : List Cell) (fs : List FoundAt) (os : List (Option Mixed))
    (names : Names) : Type 0 where
  pub as_many : length names ≡ length os
  pub each : (j : ℕ) → j < length os
      → IsNameFor fs (cell_at cells j).node.inside (reached_of os j) (name_at names j)
