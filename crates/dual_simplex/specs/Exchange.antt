-- What an exchange of two columns of the basis does to the rows.
use Rattle.std.specs.Prelude.{◌≡◌, ◌≢◌, ◌⊎◌, ◌<◌, ℕ, true, false, Bool, cond, ℤ, pos, neg_ℤ, List}
use Rattle.std.specs.Prelude.{map, slice_index_or}
use Rattle.flow_program.specs.integer_laws.declared.which.Which.{Which}
use Rattle.flow_program.specs.integer_laws.Combined.{IsCombined, IsPastEntry}
use Rattle.flow_program.specs.flow_rules.Columns.{exchanged}
use Rattle.dual_simplex.specs.Rows.{Rows, width, row_at, row_of, basis}

-- a row with entry 0 at e stays, and another is combined with the pivot row so that its entry there
-- becomes 0
abbrev pub IsStepped : List ℤ → List ℤ → ℕ → List ℤ → Type 0
IsStepped old pivot e new =
    ((slice_index_or old e (pos 0) ≡ pos 0) × (new ≡ old))
    ⊎ ((slice_index_or old e (pos 0) ≢ pos 0) × IsCombined old pivot e new)

-- the row has an entry at e, and a number is out of range when it is combined
abbrev pub IsPastStep : List ℤ → List ℤ → ℕ → ℕ → Which → Type 0
IsPastStep old pivot e j which = (slice_index_or old e (pos 0) ≢ pos 0)
    × IsPastEntry old pivot e j which

-- the pivot row: the row of the column that leaves, or that row negated
abbrev pub pivot_row : Bool → List ℤ → List ℤ
pivot_row negate row = cond negate (map neg_ℤ row) row

-- of the rows of w numbers each, those of the flags except that of l have made their steps
abbrev pub AreStepped : ℕ → List Bool → List ℤ → List ℤ → ℕ → ℕ → List ℤ → Type 0
AreStepped w basic old pivot l e new =
    (c : ℕ) → c < w → slice_index_or basic c false ≡ true → c ≢ l
    → IsStepped (row_at w old c) pivot e (row_at w new c)

-- one of these rows makes no step
pub record IsPastAmong (w : ℕ) (flags : List Bool) (old pivot : List ℤ) (l e row j : ℕ)
    (which : Which) : Type 0 where
  pub there : row < w
  pub basic : slice_index_or flags row false ≡ true
  pub other : row ≢ l
  pub past : IsPastStep (row_at w old row) pivot e j which

-- l leaves the basis and e enters it with this pivot row, and each other row of the basis has made
-- its step
pub record IsExchanged (old new : Rows) (l e : ℕ) (pivot : List ℤ) : Type 0 where
  pub flags : (k : ℕ) → basis new k ≡ exchanged (basis old) l e k
  pub pivot_row : row_of new e ≡ pivot
  pub rows : (c : ℕ) → c < width old → basis old c ≡ true → c ≢ l
      → IsStepped (row_of old c) pivot e (row_of new c)

-- a row of the basis other than that of l makes no step: a number of it is out of range at place j
pub record IsPastRow (old : Rows) (l e : ℕ) (pivot : List ℤ) (row j : ℕ) (which : Which) : Type
    0 where
  pub there : row < width old
  pub basic : basis old row ≡ true
  pub other : row ≢ l
  pub past : IsPastStep (row_of old row) pivot e j which

-- the rows are of the same program, and there is room for the same
pub record IsSameSize (old new : Rows) : Type 0 where
  pub program_units : new.units ≡ old.units
  pub program_rows : new.rows ≡ old.rows
  pub most_units : new.most_units ≡ old.most_units
  pub most_rows : new.most_rows ≡ old.most_rows
