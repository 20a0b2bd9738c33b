-- The path of a program: a list of bases. It begins with the start, and goes on by pivots until a
-- basis has none or a number of the pivot is out of range.
use Rattle.std.specs.Prelude.{◌≡◌, ◌≢◌, ℕ, zero, suc, ◌<◌, ◌≤◌, ℤ, pos, None, Some}
use Rattle.integer_laws.specs.declared.which.Which.{Which}
use Rattle.integer_laws.specs.Combined.{past_of}
use Rattle.integer_laws.specs.Lowest.{IsLowest}
use Rattle.flow_rules.specs.LinearProgram.{LinearProgram}
use Rattle.flow_rules.specs.Columns.{Basis, Has, start, exchanged, scale_at}
use Rattle.flow_rules.specs.Tableau.{IsTableau}
use Rattle.flow_rules.specs.Pivots.{HasPivot}

-- A row up to place `last` can be combined with the pivot row so that its entry at e becomes 0: no
-- number on the way is out of range. A row with entry 0 at e stays as it is.
abbrev pub Fits : ℕ → (ℕ → ℤ) → (ℕ → ℤ) → ℕ → Type 0
Fits last pivot row e = row e ≢ pos 0 → (m n : ℤ) → IsLowest (row e) (pivot e) n m → (k : ℕ)
    → k ≤ last → past_of m (row k) n (pivot k) ≡ None

-- place by place, the first number on that way that is out of range is at place k and is `which`
-- there
pub record IsPastEntry (last : ℕ) (pivot row : ℕ → ℤ) (e k : ℕ) (which : Which) : Type 0 where
  pub counts : row e ≢ pos 0
  pub place : k ≤ last
  pub left : ℤ
  pub right : ℤ
  pub lowest : IsLowest (row e) (pivot e) right left
  pub past : past_of left (row k) right (pivot k) ≡ Some which
  pub before : (i : ℕ) → i < k → past_of left (row i) right (pivot i) ≡ None

-- the basis b' follows b
pub record Follows (p : LinearProgram) (b b' : Basis) : Type 0 where
  pub tableau : ℕ → ℕ → ℤ
  pub is_tableau : IsTableau p b tableau
  pub leaves : ℕ
  pub enters : ℕ
  pub pivot : ℕ → ℤ
  pub has_pivot : HasPivot p b tableau leaves enters pivot
  pub fits : (c : ℕ) → Has b c → c ≢ leaves → Fits (scale_at p) pivot (tableau c) enters
  pub next : (k : ℕ) → b' k ≡ exchanged b leaves enters k

-- n pivots lead from the start to b
abbrev pub Reaches : LinearProgram → ℕ → Basis → Type 0
Reaches p zero b = (k : ℕ) → b k ≡ start p k
Reaches p (suc n) b = (before : Basis) × Reaches p n before × Follows p before b

-- the basis is on the path, and none follows it
pub record IsLast (p : LinearProgram) (b : Basis) : Type 0 where
  pub pivots : ℕ
  pub reached : Reaches p pivots b
  pub no_next : (b' : Basis) → ¬ Follows p b b'
