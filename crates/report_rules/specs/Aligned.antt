-- Rows of cells as lines with aligned columns. A column of words is aligned to the left. In a
-- column of numbers all points are below each other: what is before a point is as wide as the
-- widest such text of the column, and so is what is from the point on; the whole is at least as
-- wide as the heading. Columns are separated by two spaces, and no line ends with a space. A column
-- with nothing but 0, `-` and empty cells is left out, but for columns of sums.
use Rattle.std.specs.Prelude.{ℕ, ◌+◌, ◌-◌, ◌==◌, ◌&&◌, ◌||◌, not, nat_lt, Bool, true, false, List}
use Rattle.std.specs.Prelude.{[], ◌∷◌, ◌++◌, map, length, replicate, slice_index_or, if◌then◌else◌}
use Rattle.std.specs.List.{position_or_len}
use Rattle.report_rules.specs.declared.column.Sort.{Sort}
use Rattle.report_rules.specs.declared.column.Sort.TheVariants.{Words, Numbers, Sums}
use Rattle.report_rules.specs.declared.column.Measure.{Measure}
use Rattle.report_rules.specs.declared.column.Measure.TheVariants.{Whole, Front, Back}

abbrev pub spaces : ℕ → List ℕ
spaces n = replicate n 32

-- a cell of a row, which is empty if the row has none there
abbrev pub cell_at : ℕ → List (List ℕ) → List ℕ
cell_at k row = slice_index_or row k []

-- the length of the text before the point
abbrev pub front_of : List ℕ → ℕ
front_of cell = position_or_len (λ c. c == 46) cell

abbrev pub measured : Measure → List ℕ → ℕ
measured Whole cell = length cell
measured Front cell = front_of cell
measured Back cell = length cell - front_of cell

abbrev pub greater : ℕ → ℕ → ℕ
greater m n = if nat_lt m n then n else m

-- the greatest measure of the cells in column k, at least n
abbrev pub widest : Measure → ℕ → ℕ → List (List (List ℕ)) → ℕ
widest m k n [] = n
widest m k n (row ∷ rows) = widest m k (greater n (measured m (cell_at k row))) rows

abbrev pub is_nothing : ℕ → Bool
is_nothing c = c == 48 || (c == 45 || c == 46)

-- whether a cell shows nothing but 0, `-` or nothing: it has no other bytes than `0`, `-` and the
-- point
abbrev pub tells_nothing : List ℕ → Bool
tells_nothing [] = true
tells_nothing (c ∷ cs) = is_nothing c && tells_nothing cs

-- whether this is so for all cells in column k
abbrev pub all_tell_nothing : ℕ → List (List (List ℕ)) → Bool
all_tell_nothing k [] = true
all_tell_nothing k (row ∷ rows) = tells_nothing (cell_at k row) && all_tell_nothing k rows

-- The sort of a column, how wide it is before the point and from the point on, how much wider its
-- heading is, and whether it is kept. A column of words is all before the point.
pub record Column : Type 0 where
  pub sort : Sort
  pub front : ℕ
  pub back : ℕ
  pub room : ℕ
  pub kept : Bool

abbrev pub numbers_at : Sort → ℕ → List (List ℕ) → List (List (List ℕ)) → Bool → Column
numbers_at s k heading rows kept = record {
  sort = s;
  front = widest Front k 0 rows;
  back = widest Back k 0 rows;
  room = length (cell_at k heading) - widest Front k 0 rows - widest Back k 0 rows;
  kept = kept;
}

abbrev pub column_at : Sort → ℕ → List (List ℕ) → List (List (List ℕ)) → Column
column_at Words k heading rows = record {
  sort = Words;
  front = widest Whole k (length (cell_at k heading)) rows;
  back = 0;
  room = 0;
  kept = not (all_tell_nothing k rows);
}
column_at Numbers k heading rows = numbers_at Numbers k heading rows (not (all_tell_nothing k rows))
column_at Sums k heading rows = numbers_at Sums k heading rows true

abbrev pub columns_from : ℕ → List Sort → List (List ℕ) → List (List (List ℕ)) → List Column
columns_from k [] heading rows = []
columns_from k (s ∷ ss) heading rows =
    column_at s k heading rows ∷ columns_from (k + 1) ss heading rows

abbrev pub by_sort : {A : Type 0} → Sort → A → A → A
by_sort Words x y = x
by_sort Numbers x y = y
by_sort Sums x y = y

-- the spaces before a number or its heading, which are aligned to the right, and those after a
-- word, its heading or a number
abbrev pub before : Bool → Column → List ℕ → List ℕ
before true c cell =
    by_sort c.sort [] (spaces (c.front - length cell) ++ spaces (c.back - (length cell - c.front)))
before false c cell = by_sort c.sort [] (spaces c.room ++ spaces (c.front - front_of cell))

abbrev pub behind : Bool → Column → List ℕ → List ℕ
behind true c cell = by_sort c.sort (spaces (c.front - length cell)) []
behind false c cell =
    by_sort c.sort (spaces (c.front - length cell))
    (spaces (c.back - (length cell - front_of cell)))

-- a cell after its gap; for an empty cell nothing is written, and the gap stays
abbrev pub shown : List ℕ → List ℕ → List ℕ
shown gap cell = if length cell == 0 then [] else gap ++ cell

abbrev pub gap_left : List ℕ → List ℕ → List ℕ
gap_left gap cell = if length cell == 0 then gap else []

-- a cell of a column, as a heading or not, after a gap; and the gap after it
abbrev pub cell_text : Bool → Column → List ℕ → List ℕ → List ℕ
cell_text heading c gap cell = if c.kept then shown (gap ++ before heading c cell) cell else []

abbrev pub gap_behind : Bool → Column → List ℕ → List ℕ → List ℕ
gap_behind heading c gap cell =
    if c.kept then gap_left (gap ++ before heading c cell) cell
    ++ (behind heading c cell ++ 32 ∷ 32 ∷ []) else gap

-- the cells from column k on, after a gap
abbrev pub line_text : Bool → ℕ → List ℕ → List Column → List (List ℕ) → List ℕ
line_text heading k gap [] row = []
line_text heading k gap (c ∷ cs) row =
    cell_text heading c gap (cell_at k row)
    ++ line_text heading (k + 1) (gap_behind heading c gap (cell_at k row)) cs row

-- a table: its headings and its rows
abbrev pub table_lines : List Sort → List (List ℕ) → List (List (List ℕ)) → List (List ℕ)
table_lines sorts heading rows =
    line_text true 0 [] (columns_from 0 sorts heading rows) heading
    ∷ map (line_text false 0 [] (columns_from 0 sorts heading rows)) rows
