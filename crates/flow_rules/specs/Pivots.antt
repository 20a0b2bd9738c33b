-- Which pivot a basis has, and what a pivot does to its rows. T is the tableau.
use Rattle.std.specs.Prelude.{◌≡◌, ◌≢◌, ℕ, suc, ◌<◌, false, ℤ, pos, ◌-ℤ◌, ◌*ℤ◌, neg_ℤ, ◌<ℤ◌, ◌≤ℤ◌}
use Rattle.flow_rules.specs.LinearProgram.{LinearProgram}
use Rattle.flow_rules.specs.Columns.{Basis, Has, x_at, s_at, columns, right_at, scale_at}
use Rattle.flow_rules.specs.Lexicographic.{IsBefore}
use Rattle.flow_rules.specs.Vectors.{gain}

-- The first unit whose entry in the cost row is below 0. Its s is in the basis, with a row that is
-- positive at its x.
pub record IsFirstKind (p : LinearProgram) (b : Basis) (T : ℕ → ℕ → ℤ) (unit : ℕ) : Type 0 where
  pub is_unit : unit < p.units
  pub negative : T (scale_at p) (x_at p unit) <ℤ pos 0
  pub before : (i : ℕ) → i < unit → pos 0 ≤ℤ T (scale_at p) (x_at p i)
  pub basic : Has b (s_at p unit)
  pub positive : pos 0 <ℤ T (s_at p unit) (x_at p unit)

-- l is the first basis column whose value is below 0, and no entry of the cost row is
pub record IsLeaving (p : LinearProgram) (b : Basis) (T : ℕ → ℕ → ℤ) (l : ℕ) : Type 0 where
  pub costs : (k : ℕ) → k < columns p → pos 0 ≤ℤ T (scale_at p) k
  pub column : l < columns p
  pub basic : Has b l
  pub negative : T l (right_at p) <ℤ pos 0
  pub before : (c : ℕ) → c < l → Has b c → pos 0 ≤ℤ T c (right_at p)

-- Of the columns at which the row of l is below 0, e has the least vector over minus that entry.
-- The comparison is by cross products.
pub record IsEntering (p : LinearProgram) (b : Basis) (T : ℕ → ℕ → ℤ) (l e : ℕ) : Type 0 where
  pub column : e < columns p
  pub negative : T l e <ℤ pos 0
  pub least : (j : ℕ) → j < columns p → T l j <ℤ pos 0 → j ≢ e
      → IsBefore (suc (columns p)) (λ q. neg_ℤ (T l j) *ℤ gain b T (scale_at p) e q)
      (λ q. neg_ℤ (T l e) *ℤ gain b T (scale_at p) j q)

-- the pivot by which l leaves the basis and e enters it, with its pivot row
pub data HasPivot (p : LinearProgram) (b : Basis) (T : ℕ → ℕ → ℤ) : ℕ → ℕ → (ℕ → ℤ) → Type 0 where
  first_kind : (unit : ℕ) → IsFirstKind p b T unit
      → HasPivot p b T (s_at p unit) (x_at p unit) (T (s_at p unit))
  second_kind : (l e : ℕ) → IsLeaving p b T l → IsEntering p b T l e
      → HasPivot p b T l e (λ k. neg_ℤ (T l k))

-- no entry of the cost row is below 0, and no value: the basis gives least flows
pub record IsFeasible (p : LinearProgram) (b : Basis) (T : ℕ → ℕ → ℤ) : Type 0 where
  pub costs : (k : ℕ) → k < columns p → pos 0 ≤ℤ T (scale_at p) k
  pub values : (c : ℕ) → Has b c → c < columns p → pos 0 ≤ℤ T c (right_at p)

-- the row of l can't be met: its right side is below 0, and no other entry is
pub record IsRefuting (p : LinearProgram) (b : Basis) (T : ℕ → ℕ → ℤ) (l : ℕ) : Type 0 where
  pub leaving : IsLeaving p b T l
  pub entries : (k : ℕ) → k < columns p → pos 0 ≤ℤ T l k

-- ---- what a pivot does

-- `new` is `row` with its entry at e taken away by `pivot`, up to a positive factor
pub record IsCombined (pivot row new : ℕ → ℤ) (e : ℕ) : Type 0 where
  pub factor : ℤ
  pub positive : pos 0 <ℤ factor
  pub at : (k : ℕ) → factor *ℤ new k ≡ pivot e *ℤ row k -ℤ row e *ℤ pivot k

-- l leaves the basis and e enters it, with this pivot row; T' are the rows after it
pub record IsPivoted (b b' : Basis) (T T' : ℕ → ℕ → ℤ) (l e : ℕ) (pivot : ℕ → ℤ) : Type 0 where
  pub was : Has b l
  pub free : b e ≡ false
  pub enters : Has b' e
  pub leaves : b' l ≡ false
  pub stays : (k : ℕ) → k ≢ l → k ≢ e → b' k ≡ b k
  pub positive : pos 0 <ℤ pivot e
  pub row : (k : ℕ) → T' e k ≡ pivot k
  pub rows : (c : ℕ) → Has b c → c ≢ l → IsCombined pivot (T c) (T' c) e
