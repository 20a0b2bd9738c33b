-- Laws of rows as lists of numbers in range, each the contract of a public function of this crate.
use Rattle.std.specs.Prelude.{◌≡◌, ◌≢◌, ℕ, suc, ◌+◌, ◌*◌, ◌^◌, ◌<◌, ◌≤◌, ℤ, pos, ◌-ℤ◌, ◌<ℤ◌}
use Rattle.std.specs.Prelude.{unsigned_abs, List, length, slice_index_or}
use Rattle.flow_rules.specs.integer_laws.Combined as rows
use Rattle.flow_rules.specs.Program.{Program, IsProgram}
use Rattle.flow_rules.specs.LinearProgram.{LinearProgram, linear_of, low_flow}
use Rattle.flow_rules.specs.Columns.{Basis, Has, x_at, s_at, columns, right_at, scale_at}
use Rattle.flow_rules.specs.Tableau.{IsPrimitive, IsTableau}
use Rattle.flow_rules.specs.Vectors.{value_top, value_bottom}
use Rattle.flow_rules.specs.Pivots.{IsFirstKind, IsCombined}
use Rattle.flow_rules.specs.Path.{Fits, Reaches}
use Rattle.flow_rules.specs.Rank.{IsWithin}

-- an entry of a row; 0 after its end
abbrev pub entry : List ℤ → ℕ → ℤ
entry row k = slice_index_or row k (pos 0)

-- a row that was combined with a pivot row and made primitive is the row with its entry taken away,
-- up to a positive factor
abbrev pub RowsAreCombined : Type 0
RowsAreCombined =
    (old pivot new : List ℤ) (c : ℕ) → length old ≡ length pivot → pos 0 <ℤ entry pivot c
    → rows.IsCombined old pivot c new
    → IsCombined (entry pivot) (entry old) (entry new) c

-- and it has no common divisor, unless it is 0 everywhere
abbrev pub RowsArePrimitive : Type 0
RowsArePrimitive =
    (old pivot new : List ℤ) (c : ℕ) → rows.IsCombined old pivot c new → (k : ℕ) → k < length new
    → entry new k ≢ pos 0
    → IsPrimitive (length new) (entry new)

-- ---- the first phase

-- no rate is above a, no box is wider than w, and no end of a row is further than s from its flow
-- at the lower ends
pub record AreWithin (p : LinearProgram) (a w s : ℕ) : Type 0 where
  pub rates : (j i : ℕ) → j < p.rows → i < p.units → unsigned_abs (p.rate j i) ≤ a
  pub widths : (i : ℕ) → i < p.units → unsigned_abs (p.high i -ℤ p.low i) ≤ w
  pub floors : (j : ℕ) → j < p.rows → unsigned_abs (p.floor j -ℤ low_flow p j) ≤ s
  pub ceilings : (j : ℕ) → j < p.rows → unsigned_abs (p.ceiling j -ℤ low_flow p j) ≤ s

-- no entry of a row other than the cost row becomes greater than this
abbrev pub most : LinearProgram → ℕ → ℕ → ℕ → ℕ
most p a w s = s + p.units * (a * w) + a * w + a + 1

-- at a pivot of the first kind no row but the cost row can leave the range
abbrev pub FirstKindFits : Type 0
FirstKindFits =
    (p : LinearProgram) (a w s : ℕ) → AreWithin p a w s → 2 * most p a w s < 2 ^ 127
    → (n : ℕ) (b : Basis) → Reaches p n b → (T : ℕ → ℕ → ℤ) → IsTableau p b T → (unit : ℕ)
    → IsFirstKind p b T unit
    → (c : ℕ) → Has b c → c ≢ s_at p unit → c ≢ scale_at p
    → Fits (scale_at p) (T (s_at p unit)) (T c) (x_at p unit)

-- so it is for the program of a node, whose numbers are that small
abbrev pub ProgramFits : Type 0
ProgramFits =
    (q : Program) → IsProgram q → (n : ℕ) (b : Basis) → Reaches (linear_of q) n b → (T : ℕ → ℕ → ℤ)
    → IsTableau (linear_of q) b T → (unit : ℕ) → IsFirstKind (linear_of q) b T unit
    → (c : ℕ) → Has b c → c ≢ s_at (linear_of q) unit → c ≢ scale_at (linear_of q)
    → Fits (scale_at (linear_of q)) (T (s_at (linear_of q) unit)) (T c)
    (x_at (linear_of q) unit)

-- ---- values

-- if no entry of the rows of a basis is above m, no number of the list of its values is
abbrev pub ValuesAreWithin : Type 0
ValuesAreWithin =
    (p : LinearProgram) (n : ℕ) (b : Basis) → Reaches p n b → (T : ℕ → ℕ → ℤ) → IsTableau p b T
    → (m : ℕ) → 1 ≤ m → ((c k : ℕ) → Has b c → k ≤ scale_at p → unsigned_abs (T c k) ≤ m)
    → IsWithin m (suc (columns p)) (value_top b T (scale_at p) (right_at p))
    (value_bottom b T (scale_at p))
