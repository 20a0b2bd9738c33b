-- The numbers of the units and of the materials of a program, by their places in it.
use Rattle.std.specs.Prelude.{◌≡◌, ℕ, ◌<◌, List, length, slice_index_or}
use Rattle.flow_program.specs.flow_rules.Program.{Program}

abbrev pub IsTableOf : List ℕ → List ℕ → Type 0
IsTableOf numbers table = (i : ℕ) → i < length numbers
    → slice_index_or table i 0 ≡ slice_index_or numbers i 0

pub record AreNumbers (q : Program) (units rows : List ℕ) : Type 0 where
  pub units_are : IsTableOf q.units units
  pub rows_are : IsTableOf q.rows rows
