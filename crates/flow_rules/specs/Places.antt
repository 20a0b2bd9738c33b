-- The places at which a number can leave the range, and when one does at the last basis of the path
-- of a node's program. A basis fixes its tableau, and a program fixes its path, so no choice is
-- left.
use Rattle.std.specs.Prelude.{◌≡◌, ◌≢◌, ℕ, ◌<◌, true, ℤ, pos, neg_ℤ, List, ◌||◌}
use Rattle.integer_laws.specs.declared.which.Which.{Which}
use Rattle.pns_rules.specs.Nodes.{Node}
use Rattle.flow_rules.specs.Net.{Net, beside}
use Rattle.flow_rules.specs.Relaxed.{units, rows}
use Rattle.flow_rules.specs.Steps.{IsFirstPast}
use Rattle.flow_rules.specs.BoundSteps.{bound_steps}
use Rattle.flow_rules.specs.CostSteps.{cost_steps}
use Rattle.flow_rules.specs.FeasibleSteps.{feasible_steps}
use Rattle.flow_rules.specs.LinearProgram.{LinearProgram, linear}
use Rattle.flow_rules.specs.Columns.{Basis, Has, x_at, s_at, scale_at}
use Rattle.flow_rules.specs.Tableau.{IsTableau}
use Rattle.flow_rules.specs.Pivots.{IsFirstKind, IsLeaving, IsEntering, IsFeasible, IsRefuting}
use Rattle.flow_rules.specs.Path.{IsPastEntry, IsLast}
use Rattle.flow_rules.specs.Multipliers.{AreMultipliers, AreRefuting}
use Rattle.flow_rules.specs.ReadFlows.{FlowStep, AreRead, IsPastFlow}

-- Columns are named by their places. The row of the scale is the cost row. Units are numbered as in
-- the program.
pub data Place : Type 0 where
  Entry : (leave enter row column : ℕ) → Which → Place
  Flow : (unit : ℕ) → FlowStep → Place
  Cost : (at : ℕ) → Place
  FlowSum : (at : ℕ) → Place
  Bound : (at : ℕ) → Place
  Refute : (row at : ℕ) → Place

-- a number of the row overflows when the row is combined at the pivot of the basis; at a pivot of
-- the first kind it is the cost row
pub data IsPastPivot (p : LinearProgram) (b : Basis) (T : ℕ → ℕ → ℤ) : ℕ → ℕ → ℕ → ℕ → Which
    → Type 0 where
  at_first : (unit k : ℕ) (which : Which) → IsFirstKind p b T unit
      → IsPastEntry (scale_at p) (T (s_at p unit)) (T (scale_at p)) (x_at p unit) k which
      → IsPastPivot p b T (s_at p unit) (x_at p unit) (scale_at p) k which
  at_second : (l e c k : ℕ) (which : Which) → IsLeaving p b T l → IsEntering p b T l e → Has b c
      → c ≢ l → IsPastEntry (scale_at p) (λ i. neg_ℤ (T l i)) (T c) e k which
      → IsPastPivot p b T l e c k which

-- every unit is taken in or left out
abbrev pub IsDecided : Net → Node → Type 0
IsDecided net n = (i : ℕ) → i < net.graph.units → (n.inside i || n.outside i) ≡ true

-- the flows of the basis are read with no number out of range, as sizes of the units of the program
pub record HasFlows (net : Net) (n : Node) (b : Basis) (T : ℕ → ℕ → ℤ)
    (Of : (ℕ → ℤ) → ℤ → Type 0) : Type 0 where
  pub decided : IsDecided net n
  pub feasible : IsFeasible (linear net n) b T
  pub zs : List ℤ
  pub d : ℤ
  pub read : AreRead (linear net n) b T zs d
  pub of : Of (beside (units net n) zs) d

pub record HasMultipliers (net : Net) (n : Node) (b : Basis) (T : ℕ → ℕ → ℤ) (at : ℕ) : Type 0 where
  pub feasible : IsFeasible (linear net n) b T
  pub d : ℤ
  pub ys : List ℤ
  pub are : AreMultipliers (linear net n) (T (scale_at (linear net n))) d ys
  pub past : IsFirstPast (bound_steps net n d (beside (rows net n) ys)) at

pub record HasRefutation (net : Net) (n : Node) (b : Basis) (T : ℕ → ℕ → ℤ) (row at : ℕ) : Type
    0 where
  pub refuting : IsRefuting (linear net n) b T row
  pub ys : List ℤ
  pub are : AreRefuting (linear net n) (T row) ys
  pub past : IsFirstPast (bound_steps net n (pos 0) (beside (rows net n) ys)) at

-- the number at the place overflows at a basis with this tableau
abbrev pub IsPastAt : Net → Node → Basis → (ℕ → ℕ → ℤ) → Place → Type 0
IsPastAt net n b T (Entry leave enter row column which) =
    IsPastPivot (linear net n) b T leave enter row column which
IsPastAt net n b T (Flow unit step) = IsDecided net n × IsFeasible (linear net n) b T
    × IsPastFlow (linear net n) b T unit step
IsPastAt net n b T (Cost at) =
    HasFlows net n b T (λ z d. IsFirstPast (cost_steps net n.inside z d) at)
IsPastAt net n b T (FlowSum at) =
    HasFlows net n b T (λ z d. IsFirstPast (feasible_steps net n.inside z d) at)
IsPastAt net n b T (Bound at) = HasMultipliers net n b T at
IsPastAt net n b T (Refute row at) = HasRefutation net n b T row at

-- the number at the place overflows at the basis, which is the last of the path of the node's
-- program
pub record IsPast (net : Net) (n : Node) (b : Basis) (place : Place) : Type 0 where
  pub last : IsLast (linear net n) b
  pub tableau : ℕ → ℕ → ℤ
  pub is_tableau : IsTableau (linear net n) b tableau
  pub here : IsPastAt net n b tableau place
