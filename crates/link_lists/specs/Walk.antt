-- One list, cell by cell.
use Rattle.std.specs.Prelude.{ℕ, ◌==◌, cond, List, [], ◌∷◌, Option, Some, None}
use Rattle.link_lists.specs.Lists.{Rows, row, IsListed, list_with}

-- the list from c on
abbrev pub from : ℕ → List ℕ → List ℕ
from c [] = []
from c (x ∷ xs) = cond (x == c) (x ∷ xs) (from c xs)

-- the cells that are left of a walk, given the next one
abbrev pub left_of : Rows → Option ℕ → List ℕ
left_of r None = []
left_of r (Some c) = from c (row r.lists (list_with c r.lists))

-- the walk is at a cell of some list, or at a list's end
abbrev pub IsOnTheWay : Rows → Option ℕ → Type 0
IsOnTheWay r None = Unit {0}
IsOnTheWay r (Some c) = IsListed r.lists c
