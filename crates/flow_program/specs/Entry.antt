-- The number at a place of a table, and 0 beyond it.
use Rattle.std.specs.Prelude.{ℕ, ℤ, pos, cond, List, slice_index_or}
use Rattle.pgraph.specs.number_sets.Sets.{has}

abbrev pub entry : List ℤ → ℕ → ℤ
entry table k = slice_index_or table k (pos 0)

-- the rate of a material if it is one of the unit's, else 0
abbrev pub rate_beside : List ℕ → List ℤ → ℕ → ℤ
rate_beside materials rates j = cond (has materials j) (entry rates j) (pos 0)
