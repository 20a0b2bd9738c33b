-- The columns of a tableau, and the places at which a number can leave the range, by the numbers
-- that units and materials have in the problem. A tableau and its path have them by their places in
-- the program.
use Rattle.std.specs.Prelude.{ℕ, ◌+◌, ◌-◌, not, cond, nat_lt, nat_eq, List, length, map}
use Rattle.std.specs.Prelude.{slice_index_or, Some, None}
use Rattle.std.specs.List.{filter, range_with_len}
use Rattle.flow_rules.specs.declared.place.Column.{Column}
use Rattle.flow_rules.specs.declared.place.Column.TheVariants.{X, S, T, W, Right, Scale}
use Rattle.flow_rules.specs.declared.place.FlowStep.{FlowStep}
use Rattle.flow_rules.specs.declared.place.FlowStep.TheVariants as steps
use Rattle.flow_rules.specs.declared.place.Place.{Place}
use Rattle.flow_rules.specs.declared.place.Place.TheVariants as places
use Rattle.flow_rules.specs.Program.{Program}
use Rattle.flow_rules.specs.LinearProgram.{linear_of}
use Rattle.flow_rules.specs.Columns.{Basis, columns, scale_at}
use Rattle.flow_rules.specs.ReadFlows as read
use Rattle.flow_rules.specs.Places as path

-- the i-th unit of the program, and the material of its j-th row
abbrev pub unit_named : Program → ℕ → ℕ
unit_named q i = slice_index_or q.units i 0

abbrev pub row_named : Program → ℕ → ℕ
row_named q j = slice_index_or q.rows j 0

-- the place k of a row of a tableau of u units and r rows
abbrev pub named_at : Program → (u r k : ℕ) → Column
named_at q u r k =
    cond (nat_lt k u) (X (unit_named q k))
    (cond (nat_lt k (u + u)) (S (unit_named q (k - u)))
    (cond (nat_lt k (u + u + r)) (T (row_named q (k - (u + u))))
    (cond (nat_lt k (u + u + r + r)) (W (row_named q (k - (u + u + r))))
    (cond (nat_eq k (u + u + r + r)) Right Scale))))

abbrev pub column_named : Program → ℕ → Column
column_named q k = named_at q (length q.units) (length q.rows) k

-- the columns that are not in the basis, in the order of their places: x, s, t, w
abbrev pub nonbasic_named : Program → Basis → List Column
nonbasic_named q b =
    map (column_named q) (filter (λ k. not (b k)) (range_with_len 0 (columns (linear_of q))))

abbrev pub step_named : read.FlowStep → FlowStep
step_named read.Lcm = steps.Lcm
step_named read.Shift = steps.Shift
step_named read.Scaled = steps.Scaled
step_named read.Total = steps.Total

-- the row of the scale is the cost row, which has no column's name
abbrev pub place_named : Program → path.Place → Place
place_named q (path.Entry leave enter row column which) =
    places.Entry (column_named q leave) (column_named q enter)
    (cond (nat_eq row (scale_at (linear_of q))) None (Some (column_named q row)))
    (column_named q column) which
place_named q (path.Flow unit step) = places.Flow (unit_named q unit) (step_named step)
place_named q (path.Cost at) = places.Cost at
place_named q (path.FlowSum at) = places.FlowSum at
place_named q (path.Bound at) = places.Bound at
place_named q (path.Refute row at) = places.Refute (column_named q row) at
