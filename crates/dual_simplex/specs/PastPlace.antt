-- The place that a bench names when a number leaves the range.
use Rattle.std.specs.Prelude.{◌≡◌, ℕ, ◌<◌, length}
use Rattle.flow_program.specs.integer_laws.declared.which.Which.{Which}
use Rattle.flow_program.specs.flow_rules.declared.place.Place.{Place}
use Rattle.flow_program.specs.flow_rules.Program.{Program}
use Rattle.flow_program.specs.flow_rules.LinearProgram.{linear_of}
use Rattle.flow_program.specs.flow_rules.ReadFlows.{FlowStep, IsPastFlow}
use Rattle.flow_program.specs.flow_rules.Places as path
use Rattle.dual_simplex.specs.Rows.{table, basis}
use Rattle.dual_simplex.specs.Walk.{EndsPast}
use Rattle.dual_simplex.specs.Bench.{Bench}
use Rattle.flow_program.specs.flow_rules.Named.{nonbasic_named, place_named}

-- at the pivot of the basis that is kept an entry is out of range
pub record IsPastOf (q : Program) (b : Bench) (place : Place) : Type 0 where
  pub leaves : ℕ
  pub enters : ℕ
  pub row : ℕ
  pub column : ℕ
  pub which : Which
  pub ends : EndsPast (linear_of q) b.rows leaves enters row column which
  pub nonbasic_are : b.nonbasic ≡ nonbasic_named q (basis b.rows)
  pub named : place ≡ place_named q (path.Entry leaves enters row column which)

-- a number is out of range when the flows of the basis that is kept are read
pub record IsPastFlowOf (q : Program) (b : Bench) (place : Place) : Type 0 where
  pub unit : ℕ
  pub step : FlowStep
  pub is_unit : unit < length q.units
  pub past : IsPastFlow (linear_of q) (basis b.rows) (table b.rows) unit step
  pub named : place ≡ place_named q (path.Flow unit step)
