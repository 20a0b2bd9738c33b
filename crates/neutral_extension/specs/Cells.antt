-- How memory keeps the makers, which the invariant of `Makers` cites: the maker u of the material x
-- has the cell 128 x + u in the list x.
use Rattle.std.specs.Prelude.{◌≡◌, ℕ, zero, suc, ◌+◌, ◌-◌, ◌*◌, ◌<◌, ◌≤◌, Bool, true, cond, not}
use Rattle.std.specs.Prelude.{◌&&◌, nat_lt, List, [], ◌∷◌, ◌++◌, length, map, take}
use Rattle.pgraph.specs.number_sets.Sets.{has, IsSet}
use Rattle.pgraph.specs.pns_rules.Shape.{Shape}
use Rattle.link_lists.specs.Lists.{Vacancy, Rows, row, filled, unlinked, IsListed, IsOnce, AreApart}
use Rattle.link_lists.specs.Lists as cells
use Rattle.neutral_extension.specs.Candidates.{makers_at}

abbrev pub cell_at : ℕ → ℕ → ℕ
cell_at x u = x * 128 + u

-- the lists of all makers, from the material x on
abbrev pub full_from : ℕ → List (List ℕ) → List (List ℕ)
full_from x [] = []
full_from x (us ∷ mk) = map (cell_at x) us ∷ full_from (suc x) mk

abbrev pub full_rows : List (List ℕ) → Rows
full_rows mk = record { cells = length mk * 128; lists = full_from 0 mk; stack = [] }

-- the makers that the lists have, from the material x on
abbrev pub units_from : ℕ → List (List ℕ) → List (List ℕ)
units_from x [] = []
units_from x (cs ∷ ls) = map (λ c. c - x * 128) cs ∷ units_from (suc x) ls

-- the lists with all unlinked cells back at the places that they left, the last one first
abbrev pub refilled : List (List ℕ) → List Vacancy → List (List ℕ)
refilled ls [] = ls
refilled ls (v ∷ vs) = refilled (filled v ls) vs

-- the makers of each material as the lists had them before any cell was unlinked
abbrev pub makers_of : Rows → List (List ℕ)
makers_of r = units_from 0 (refilled r.lists r.stack)

-- the cells of a unit, one for each material below n that it makes
unfoldable pub unit_cells : (ℕ → ℕ → Bool) → ℕ → ℕ → List ℕ
unit_cells makes u zero = []
unit_cells makes u (suc n) = unit_cells makes u n ++ cond (makes u n) (cell_at n u ∷ []) []

abbrev pub out_cells : Rows → List ℕ → Rows
out_cells r [] = r
out_cells r (c ∷ cs) = out_cells (unlinked r c) cs

abbrev pub makes_in : List (List ℕ) → ℕ → ℕ → Bool
makes_in mk u x = has (makers_at mk x) u

abbrev pub out_units : List (List ℕ) → Rows → List ℕ → Rows
out_units mk r [] = r
out_units mk r (u ∷ us) = out_units mk (out_cells r (unit_cells (makes_in mk) u (length mk))) us

-- the lists are those of the makers without the units taken out, which can be put back one after
-- another
pub record IsKept (r : Rows) (mk : List (List ℕ)) (ts : List ℕ) : Type 0 where
  pub is : r ≡ out_units mk (full_rows mk) ts
  pub few : length mk ≤ 256
  pub sets : (x : ℕ) → IsSet 128 (makers_at mk x)
  pub once : IsOnce ts
  pub below : (u : ℕ) → has ts u ≡ true → u < 128

pub record IsOrdered (r : Rows) (mk : List (List ℕ)) (order : List ℕ) (count : ℕ) : Type 0 where
  pub kept : IsKept r mk (take count order)
  pub room : length order ≡ 128
  pub deep : count ≤ 128

-- xs are the materials from n on that u makes
abbrev pub AreFrom : (ℕ → ℕ → Bool) → ℕ → ℕ → List ℕ → Type 0
AreFrom makes u n xs = (x : ℕ) → has xs x ≡ (makes u x && not (nat_lt x n))

-- each list keeps to its own band of cells
abbrev pub AreInBands : List (List ℕ) → Type 0
AreInBands ls = (y d : ℕ) → cells.has (row ls y) d ≡ true → (y * 128 ≤ d) × (d < y * 128 + 128)

pub record IsFilled (old new : Rows) (x : ℕ) (us : List ℕ) : Type 0 where
  pub cells : new.cells ≡ old.cells
  pub count : length new.lists ≡ length old.lists
  pub stack : new.stack ≡ []
  pub here : row new.lists x ≡ map (cell_at x) us
  pub others : (y : ℕ) → (y ≡ x → ⊥) → row new.lists y ≡ row old.lists y

-- r is what is left of `before` when the unit's cells leave, each of which was in its list
pub record IsOut (makes : ℕ → ℕ → Bool) (u n : ℕ) (before r : Rows) : Type 0 where
  pub is : r ≡ out_cells before (unit_cells makes u n)
  pub apart : AreApart before.lists
  pub listed : (x : ℕ) → x < n → makes u x ≡ true
      → IsListed (out_cells before (unit_cells makes u x)).lists (cell_at x u)

-- the same over the materials of a plant
abbrev pub IsUnitOut : Shape → ℕ → Rows → Rows → Type 0
IsUnitOut g u before r = IsOut g.makes u g.materials before r
