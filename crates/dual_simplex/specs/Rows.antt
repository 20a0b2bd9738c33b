-- The rows of a tableau, one after the other in one list of numbers: row c is that of the basis
-- column c. Rows of other columns are there too, and what they are does not matter.
use Rattle.std.specs.Prelude.{◌≡◌, ℕ, suc, ◌+◌, ◌*◌, ◌≤◌, Bool, false, ℤ, pos, List, length}
use Rattle.std.specs.Prelude.{slice_index_or}
use Rattle.std.specs.List.{slice_range}
use Rattle.flow_program.specs.integer_laws.Range.{AllInRange}
use Rattle.flow_program.specs.flow_rules.Columns.{Basis}

pub record Rows : Type 0 where
  -- of the program
  pub units : ℕ
  pub rows : ℕ
  -- the greatest program that there is room for
  pub most_units : ℕ
  pub most_rows : ℕ
  -- which columns are in the basis, the scale among them
  pub basic : List Bool
  pub entries : List ℤ

-- the columns, the right side and the scale: the numbers of a row
abbrev pub width_of : ℕ → ℕ → ℕ
width_of units rows = suc (suc (units + units + rows + rows))

abbrev pub width : Rows → ℕ
width r = width_of r.units r.rows

-- row c of rows of w numbers each
abbrev pub row_at : ℕ → List ℤ → ℕ → List ℤ
row_at w entries c = slice_range entries (c * w) (c * w + w)

abbrev pub row_of : Rows → ℕ → List ℤ
row_of r c = row_at (width r) r.entries c

-- the entry of a row at a column; 0 after its end
abbrev pub table : Rows → ℕ → ℕ → ℤ
table r c k = slice_index_or (row_of r c) k (pos 0)

abbrev pub basis : Rows → Basis
basis r k = slice_index_or r.basic k false

-- all rows have this: there is room for each row and one more, and no entry is out of range
pub record AreRows (r : Rows) : Type 0 where
  pub units_few : r.most_units ≤ 128
  pub rows_few : r.most_rows ≤ 256
  pub units_fit : r.units ≤ r.most_units
  pub rows_fit : r.rows ≤ r.most_rows
  pub flags : width r ≤ length r.basic
  pub flags_room : length r.basic ≡ width_of r.most_units r.most_rows
  pub room : suc (width r) * width r ≤ length r.entries
  pub entries_room : length r.entries ≡ suc (width_of r.most_units r.most_rows)
      * width_of r.most_units r.most_rows
  pub in_range : AllInRange r.entries
