-- Rows with the tableau of a basis of the path of a linear program.
use Rattle.std.specs.Prelude.{◌≡◌, ℕ, ℤ}
use Rattle.flow_program.specs.integer_laws.declared.which.Which.{Which}
use Rattle.flow_program.specs.flow_rules.LinearProgram.{LinearProgram}
use Rattle.flow_program.specs.flow_rules.Tableau.{IsTableau}
use Rattle.flow_program.specs.flow_rules.Path.{Reaches}
use Rattle.flow_program.specs.flow_rules.Pivots.{IsFeasible, IsRefuting}
use Rattle.flow_program.specs.flow_rules.Places.{IsPastPivot}
use Rattle.path_laws.specs.Phases.{IsFirstPhase, VectorsRise}
use Rattle.dual_simplex.specs.Rows.{Rows, table, basis}
use Rattle.dual_simplex.specs.Choice.{IsOfSize}

pub record IsOnPath (p : LinearProgram) (r : Rows) : Type 0 where
  pub size : IsOfSize p r
  pub pivots : ℕ
  pub reached : Reaches p pivots (basis r)
  pub is_tableau : IsTableau p (basis r) (table r)

-- the units below this one are done
pub record IsInFirst (p : LinearProgram) (r : Rows) (unit : ℕ) : Type 0 where
  pub on_path : IsOnPath p r
  pub phase : IsFirstPhase p (basis r) (table r) unit

-- all units are done
pub record IsInSecond (p : LinearProgram) (r : Rows) : Type 0 where
  pub on_path : IsOnPath p r
  pub rising : VectorsRise p (basis r) (table r)

-- ---- the ends of the path

pub record EndsFeasible (p : LinearProgram) (r : Rows) : Type 0 where
  pub on_path : IsOnPath p r
  pub feasible : IsFeasible p (basis r) (table r)

pub record EndsRefuting (p : LinearProgram) (r : Rows) (row : ℕ) : Type 0 where
  pub on_path : IsOnPath p r
  pub refuting : IsRefuting p (basis r) (table r) row

-- at the pivot of the basis a number is out of range; the rows no longer have the tableau
pub record EndsPast (p : LinearProgram) (r : Rows) (leaves enters row j : ℕ) (which : Which) : Type
    0 where
  pub size : IsOfSize p r
  pub pivots : ℕ
  pub reached : Reaches p pivots (basis r)
  pub tableau : ℕ → ℕ → ℤ
  pub is_tableau : IsTableau p (basis r) tableau
  pub past : IsPastPivot p (basis r) tableau leaves enters row j which

-- rows with the room that there was
pub record IsSameRoom (old new : Rows) : Type 0 where
  pub most_units : new.most_units ≡ old.most_units
  pub most_rows : new.most_rows ≡ old.most_rows
