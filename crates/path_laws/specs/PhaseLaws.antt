-- Laws of the bases along the path, each the contract of a public function of this crate. T is a
-- tableau.
use Rattle.std.specs.Prelude.{◌≡◌, ℕ, ◌<◌, ℤ, pos, ◌≤ℤ◌, ◌<ℤ◌}
use Rattle.flow_rules.specs.LinearProgram.{LinearProgram}
use Rattle.flow_rules.specs.Columns.{Basis, x_at, scale_at}
use Rattle.flow_rules.specs.Tableau.{IsTableau, IsComplete}
use Rattle.flow_rules.specs.Pivots.{IsFirstKind}
use Rattle.flow_rules.specs.Path.{Reaches}
use Rattle.flow_rules.specs.Start.{IsStart}

-- the start has its rows
abbrev pub StartHasRows : Type 0
StartHasRows = (p : LinearProgram) → (T : ℕ → ℕ → ℤ) × IsStart p T

-- no basis is on the path twice
abbrev pub NoBasisTwice : Type 0
NoBasisTwice = (p : LinearProgram) (m n : ℕ) (b c : Basis) → Reaches p m b → Reaches p n c
    → ((k : ℕ) → b k ≡ c k) → m ≡ n

-- what solves the tableau of a basis of the path solves the equations
abbrev pub PathIsComplete : Type 0
PathIsComplete = (p : LinearProgram) (n : ℕ) (b : Basis) → Reaches p n b → (T : ℕ → ℕ → ℤ)
    → IsTableau p b T → IsComplete p b T

-- At a basis of the path, the first unit whose entry in the cost row is below 0 has a pivot of the
-- first kind: its s is in the basis, with a row that is positive at its x.
abbrev pub FirstUnitHasPivot : Type 0
FirstUnitHasPivot =
    (p : LinearProgram) (n : ℕ) (b : Basis) → Reaches p n b → (T : ℕ → ℕ → ℤ) → IsTableau p b T
    → (unit : ℕ) → unit < p.units → T (scale_at p) (x_at p unit) <ℤ pos 0
    → ((i : ℕ) → i < unit → pos 0 ≤ℤ T (scale_at p) (x_at p i))
    → IsFirstKind p b T unit
