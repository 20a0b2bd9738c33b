-- Names for units and rows of a program: a unit's number is one of its units, a material's one of
-- its rows.
use Rattle.std.specs.Prelude.{◌≡◌, ℕ, true, Option, Some, None}
use Rattle.flow_program.specs.number_sets.Sets.{has}
use Rattle.flow_program.specs.problem_rules.Each.{Each}
use Rattle.flow_program.specs.flow_rules.declared.place.Column.{Column}
use Rattle.flow_program.specs.flow_rules.declared.place.Column.TheVariants.{X, S, T, W, Right}
use Rattle.flow_program.specs.flow_rules.declared.place.Column.TheVariants.{Scale}
use Rattle.flow_program.specs.flow_rules.declared.place.Place.{Place}
use Rattle.flow_program.specs.flow_rules.declared.place.Place.TheVariants as places
use Rattle.flow_program.specs.flow_rules.Program.{Program}
use Rattle.flow_program.specs.flow_rules.Columns.{Basis}
use Rattle.dual_simplex.specs.Bench.{Bench, IsNoneOf}
use Rattle.flow_program.specs.flow_rules.Named.{column_named, nonbasic_named}
use Rattle.dual_simplex.specs.PastPlace.{IsPastOf, IsPastFlowOf}

abbrev pub IsColumnOf : Program → Column → Type 0
IsColumnOf q (X u) = has q.units u ≡ true
IsColumnOf q (S u) = has q.units u ≡ true
IsColumnOf q (T x) = has q.rows x ≡ true
IsColumnOf q (W x) = has q.rows x ≡ true
IsColumnOf q Right = Unit {0}
IsColumnOf q Scale = Unit {0}

-- the row of a column; none is the cost row
abbrev pub IsRowOf : Program → Option Column → Type 0
IsRowOf q None = Unit {0}
IsRowOf q (Some column) = IsColumnOf q column

abbrev pub IsPlaceOf : Program → Place → Type 0
IsPlaceOf q (places.Entry leave enter row column which) =
    IsColumnOf q leave × IsColumnOf q enter × IsRowOf q row × IsColumnOf q column
IsPlaceOf q (places.Flow unit which) = has q.units unit ≡ true
IsPlaceOf q (places.Cost at) = Unit {0}
IsPlaceOf q (places.FlowSum at) = Unit {0}
IsPlaceOf q (places.Bound at) = Unit {0}
IsPlaceOf q (places.Refute row at) = IsColumnOf q row

-- ---- the laws

abbrev pub NonbasicAreOfProgram : Type 0
NonbasicAreOfProgram = (q : Program) (b : Basis) → Each (IsColumnOf q) (nonbasic_named q b)

abbrev pub ColumnsAreOfProgram : Type 0
ColumnsAreOfProgram = (q : Program) (k : ℕ) → IsColumnOf q (column_named q k)

-- the row that can't be met
abbrev pub RowIsOfProgram : Type 0
RowIsOfProgram = (q : Program) (b : Bench) → IsNoneOf q b → IsColumnOf q b.row

abbrev pub EntriesAreOfProgram : Type 0
EntriesAreOfProgram = (q : Program) (b : Bench) (place : Place) → IsPastOf q b place
    → IsPlaceOf q place

abbrev pub FlowsAreOfProgram : Type 0
FlowsAreOfProgram = (q : Program) (b : Bench) (place : Place) → IsPastFlowOf q b place
    → IsPlaceOf q place
