-- How memory represents the open leaves: as the one list of `Lists`, of which no cell is unlinked,
-- and with marks.
use Rattle.std.specs.Prelude.{◌≡◌, ℕ, Bool, true, [], List, length, Some}
use Rattle.std.specs.List.{slice_get}
use Rattle.link_lists.specs.Lists.{Rows, row, has}

-- each leaf with a mark is in the list of leaves
abbrev pub AreMarked : List Bool → List ℕ → Type 0
AreMarked marks leaves = (leaf : ℕ) → slice_get marks leaf ≡ Some true → has leaves leaf ≡ true

pub record IsOneList (lists : Rows) (room : ℕ) (marks : List Bool) : Type 0 where
  pub one : length lists.lists ≡ 1
  pub linked : lists.stack ≡ []
  pub cells : lists.cells ≡ room
  pub marked : AreMarked marks (row lists.lists 0)
