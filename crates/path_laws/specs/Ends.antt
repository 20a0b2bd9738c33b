-- The tableau of a basis of the path of a node's program, and what is read off it.
use Rattle.std.specs.Prelude.{◌≡◌, ℕ, ◌<◌, not, ℤ, List}
use Rattle.flow_rules.specs.pns_rules.Nodes.{Node}
use Rattle.flow_rules.specs.Net.{Net}
use Rattle.flow_rules.specs.LinearProgram.{linear}
use Rattle.flow_rules.specs.Columns.{Basis, scale_at}
use Rattle.flow_rules.specs.Tableau.{IsTableau}
use Rattle.flow_rules.specs.Pivots.{IsFeasible, IsRefuting}
use Rattle.flow_rules.specs.Path.{Reaches}
use Rattle.flow_rules.specs.Multipliers.{AreMultipliers, AreRefuting}

-- T is the tableau of a basis of the path
pub record IsOnPath (net : Net) (n : Node) (b : Basis) (T : ℕ → ℕ → ℤ) : Type 0 where
  pub pivots : ℕ
  pub reached : Reaches (linear net n) pivots b
  pub is_tableau : IsTableau (linear net n) b T

-- the basis gives least flows, and d and ys are the multipliers of its cost row
pub record EndsLeast (net : Net) (n : Node) (b : Basis) (T : ℕ → ℕ → ℤ) (d : ℤ) (ys : List ℤ) : Type
    0 where
  pub on_path : IsOnPath net n b T
  pub feasible : IsFeasible (linear net n) b T
  pub are : AreMultipliers (linear net n) (T (scale_at (linear net n))) d ys

-- a row of the basis can't be met, and ys are its multipliers
pub record EndsNone (net : Net) (n : Node) (b : Basis) (T : ℕ → ℕ → ℤ) (row : ℕ)
    (ys : List ℤ) : Type 0 where
  pub on_path : IsOnPath net n b T
  pub refuting : IsRefuting (linear net n) b T row
  pub are : AreRefuting (linear net n) (T row) ys

-- each unit is either taken in or left out
abbrev pub IsSplit : Net → Node → Type 0
IsSplit net n = (i : ℕ) → i < net.graph.units → n.outside i ≡ not (n.inside i)
