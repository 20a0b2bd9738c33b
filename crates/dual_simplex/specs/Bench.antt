-- What a bench keeps of the last program that it was given, and what that means.
use Rattle.std.specs.Prelude.{◌≡◌, ◌+◌, ◌≤◌, ◌≤ℤ◌, pos, ℕ, ℤ, List, length, All}
use Rattle.flow_program.specs.flow_rules.declared.place.Column.{Column}
use Rattle.flow_program.specs.integer_laws.Range.{InRange, AllInRange}
use Rattle.flow_program.specs.flow_rules.Program.{Program}
use Rattle.flow_program.specs.flow_rules.LinearProgram.{linear_of}
use Rattle.flow_program.specs.flow_rules.Columns.{scale_at}
use Rattle.flow_program.specs.flow_rules.Multipliers.{AreMultipliers, AreRefuting}
use Rattle.flow_program.specs.flow_rules.ReadFlows.{AreRead}
use Rattle.dual_simplex.specs.Rows.{Rows, table, basis}
use Rattle.flow_program.specs.flow_rules.Named.{column_named, nonbasic_named}
use Rattle.dual_simplex.specs.Sizes.{IsSize}
use Rattle.dual_simplex.specs.Walk.{EndsFeasible, EndsRefuting}

pub record Bench : Type 0 where
  pub rows : Rows
  -- the columns that are not in the basis
  pub nonbasic : List Column
  -- the multipliers and their scale, or the multipliers of a refutation
  pub d : ℤ
  pub ys : List ℤ
  -- the column whose row can't be met
  pub row : Column
  -- the sizes of the units, in order, and their denominator
  pub flows : List ℤ
  pub flow_den : ℤ

-- how many numbers a bench has room for: the columns, of which some are not in the basis, the
-- multipliers, the flows and the rounded sizes of the greatest program
pub record HasLists (r : Rows) (nonbasic columns ys flows : ℕ) (sizes : List ℤ) : Type 0 where
  pub nonbasic_fit : nonbasic ≤ columns
  pub columns_room : columns ≡ r.most_units + r.most_units + r.most_rows + r.most_rows
  pub ys_room : ys ≡ r.most_rows
  pub flows_room : flows ≡ r.most_units
  pub sizes_room : length sizes ≡ r.most_units
  pub sizes_are : All IsSize sizes

-- there is room for programs of so many units and rows
pub record HasRoom (b : Bench) (units rows : ℕ) : Type 0 where
  pub units_fit : units ≤ b.rows.most_units
  pub rows_fit : rows ≤ b.rows.most_rows

-- the bench keeps the last basis of the path of the program, which gives least flows, and the
-- multipliers of its cost row
pub record IsLeastOf (q : Program) (b : Bench) : Type 0 where
  pub feasible : EndsFeasible (linear_of q) b.rows
  pub nonbasic_are : b.nonbasic ≡ nonbasic_named q (basis b.rows)
  pub are : AreMultipliers (linear_of q) (table b.rows (scale_at (linear_of q))) b.d b.ys
  pub count : length b.ys ≡ length q.rows
  pub scale_in_range : InRange b.d
  pub in_range : AllInRange b.ys

-- a row of that basis can't be met, and the bench keeps its multipliers
pub record IsNoneOf (q : Program) (b : Bench) : Type 0 where
  pub place : ℕ
  pub refuting : EndsRefuting (linear_of q) b.rows place
  pub row_is : b.row ≡ column_named q place
  pub nonbasic_are : b.nonbasic ≡ nonbasic_named q (basis b.rows)
  pub are : AreRefuting (linear_of q) (table b.rows place) b.ys
  pub count : length b.ys ≡ length q.rows
  pub in_range : AllInRange b.ys

-- the bench keeps the flows of that basis
pub record AreFlowsOf (q : Program) (b : Bench) : Type 0 where
  pub read : AreRead (linear_of q) (basis b.rows) (table b.rows) b.flows b.flow_den
  pub count : length b.flows ≡ length q.units
  pub positive : pos 1 ≤ℤ b.flow_den
  pub den_in_range : InRange b.flow_den
  pub in_range : AllInRange b.flows
