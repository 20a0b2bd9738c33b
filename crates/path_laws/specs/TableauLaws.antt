-- Laws of tableaux, each the contract of a public function of this crate. Each holds for every
-- linear program with ranges. T and T' are rows, one for each column.
use Rattle.std.specs.Prelude.{◌≡◌, ◌≢◌, ℕ, suc, ◌≤◌, ℤ}
use Rattle.flow_rules.specs.LinearProgram.{LinearProgram}
use Rattle.flow_rules.specs.Columns.{Basis, Has, scale_at, start, exchanged}
use Rattle.flow_rules.specs.Tableau.{IsIndependent, IsPrimitive, IsTableau, IsComplete}
use Rattle.flow_rules.specs.Pivots.{HasPivot, IsPivoted}
use Rattle.flow_rules.specs.Start.{IsStart}

-- a basis has at most one tableau
abbrev pub TableauIsOne : Type 0
TableauIsOne =
    (p : LinearProgram) (b : Basis) → IsIndependent p b → (T U : ℕ → ℕ → ℤ) → IsTableau p b T
    → IsTableau p b U
    → (c k : ℕ) → Has b c → k ≤ scale_at p → T c k ≡ U c k

-- ---- the start

abbrev pub StartIsIndependent : Type 0
StartIsIndependent = (p : LinearProgram) → IsIndependent p (start p)

-- the start rows are the tableau of the start
abbrev pub StartIsTableau : Type 0
StartIsTableau = (p : LinearProgram) (T : ℕ → ℕ → ℤ) → IsStart p T → IsTableau p (start p) T

-- and have no other solutions than the equations
abbrev pub StartIsComplete : Type 0
StartIsComplete = (p : LinearProgram) (T : ℕ → ℕ → ℤ) → IsStart p T → IsComplete p (start p) T

-- ---- pivots

-- the equations determine the columns of the basis after a pivot
abbrev pub PivotKeepsIndependence : Type 0
PivotKeepsIndependence =
    (p : LinearProgram) (b b' : Basis) (T : ℕ → ℕ → ℤ) (l e : ℕ) (pivot : ℕ → ℤ) → IsIndependent p b
    → IsTableau p b T → HasPivot p b T l e pivot
    → ((k : ℕ) → b' k ≡ exchanged b l e k) → IsIndependent p b'

-- the rows that were combined with the pivot row, in lowest terms, are with it the tableau of the
-- basis after the pivot
abbrev pub PivotKeepsTableau : Type 0
PivotKeepsTableau =
    (p : LinearProgram) (b b' : Basis) (T T' : ℕ → ℕ → ℤ) (l e : ℕ) (pivot : ℕ → ℤ)
    → IsTableau p b T → HasPivot p b T l e pivot → IsPivoted b b' T T' l e pivot
    → ((c : ℕ) → Has b c → c ≢ l → IsPrimitive (suc (scale_at p)) (T' c)) → IsTableau p b' T'

-- and have no other solutions than the rows before
abbrev pub PivotKeepsSolutions : Type 0
PivotKeepsSolutions =
    (p : LinearProgram) (b b' : Basis) (T T' : ℕ → ℕ → ℤ) (l e : ℕ) (pivot : ℕ → ℤ)
    → IsTableau p b T → HasPivot p b T l e pivot → IsPivoted b b' T T' l e pivot
    → IsComplete p b T → IsComplete p b' T'
