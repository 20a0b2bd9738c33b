-- The bases of a path. While pivots of the first kind are left: which columns are in, and what
-- their rows are. After them: the vector of each column outside the basis rises.
use Rattle.std.specs.Prelude.{◌≡◌, ◌≢◌, ℕ, suc, ◌<◌, ◌≤◌, ◌⊎◌, false, ℤ, pos, ◌-ℤ◌, ◌*ℤ◌, neg_ℤ}
use Rattle.std.specs.Prelude.{◌<ℤ◌, ◌≤ℤ◌}
use Rattle.flow_rules.specs.LinearProgram.{LinearProgram}
use Rattle.flow_rules.specs.Columns.{Basis, Has, x_at, s_at, t_at, w_at, columns, right_at}
use Rattle.flow_rules.specs.Columns.{scale_at, exchanged}
use Rattle.flow_rules.specs.Tableau.{IsPrimitive}
use Rattle.flow_rules.specs.Lexicographic.{IsRising}
use Rattle.flow_rules.specs.Vectors.{gain, value_top, value_bottom}
use Rattle.flow_rules.specs.Pivots.{HasPivot, IsPivoted}
use Rattle.flow_rules.specs.Path.{Fits}
use Rattle.flow_rules.specs.Start.{one_at}

-- ---- the first phase

-- the row x_i + s_i = high_i - low_i, except for its right side
pub record IsBoxRow (p : LinearProgram) (i : ℕ) (r : ℕ → ℤ) : Type 0 where
  pub at_x : (k : ℕ) → k < p.units → r (x_at p k) ≡ one_at i k
  pub at_s : (k : ℕ) → k < p.units → r (s_at p k) ≡ one_at i k
  pub at_t : (j : ℕ) → j < p.rows → r (t_at p j) ≡ pos 0
  pub at_w : (j : ℕ) → j < p.rows → r (w_at p j) ≡ pos 0
  pub at_scale : r (scale_at p) ≡ pos 0

-- x_i has entered the basis in the place of s_i
pub record IsIn (p : LinearProgram) (b : Basis) (T : ℕ → ℕ → ℤ) (i : ℕ) : Type 0 where
  pub basic : Has b (x_at p i)
  pub free : b (s_at p i) ≡ false
  pub row : IsBoxRow p i (T (x_at p i))
  pub below : p.cost i <ℤ pos 0
  pub cost_x : T (scale_at p) (x_at p i) ≡ pos 0
  pub cost_s : T (scale_at p) (s_at p i) ≡ neg_ℤ (p.cost i)

-- x_i has not entered the basis
pub record IsOut (p : LinearProgram) (b : Basis) (T : ℕ → ℕ → ℤ) (i : ℕ) : Type 0 where
  pub free : b (x_at p i) ≡ false
  pub basic : Has b (s_at p i)
  pub row : IsBoxRow p i (T (s_at p i))
  pub cost_x : T (scale_at p) (x_at p i) ≡ p.cost i
  pub cost_s : T (scale_at p) (s_at p i) ≡ pos 0

-- the units below u are done
pub record IsFirstPhase (p : LinearProgram) (b : Basis) (T : ℕ → ℕ → ℤ) (u : ℕ) : Type 0 where
  pub done : (i : ℕ) → i < u → i < p.units → IsIn p b T i ⊎ (IsOut p b T i × (pos 0 ≤ℤ p.cost i))
  pub left : (i : ℕ) → u ≤ i → i < p.units → IsOut p b T i
  pub has_t : (j : ℕ) → j < p.rows → Has b (t_at p j)
  pub has_w : (j : ℕ) → j < p.rows → Has b (w_at p j)
  pub scale_own : T (scale_at p) (scale_at p) ≡ pos 1

-- ---- the second phase

-- the vector of each column outside the basis rises
abbrev pub VectorsRise : LinearProgram → Basis → (ℕ → ℕ → ℤ) → Type 0
VectorsRise p b T = (j : ℕ) → j < columns p → b j ≡ false
    → IsRising (suc (columns p)) (gain b T (scale_at p) j)

-- there is a first place at which the values of b and b' differ, and there b' has the greater; by
-- cross products
abbrev pub ValuesRise : LinearProgram → Basis → (ℕ → ℕ → ℤ) → Basis → (ℕ → ℕ → ℤ) → Type 0
ValuesRise p b T b' T' =
    IsRising (suc (columns p))
    (λ q. value_top b' T' (scale_at p) (right_at p) q *ℤ value_bottom b T (scale_at p) q -ℤ
    value_top b T (scale_at p) (right_at p) q *ℤ value_bottom b' T' (scale_at p) q)

-- ---- a step of the path

-- by this pivot b' follows b, and T' are the rows that T becomes, in lowest terms
pub record IsExchange (p : LinearProgram) (b b' : Basis) (T T' : ℕ → ℕ → ℤ) (l e : ℕ)
    (pivot : ℕ → ℤ) : Type 0 where
  pub has_pivot : HasPivot p b T l e pivot
  pub fits : (c : ℕ) → Has b c → c ≢ l → Fits (scale_at p) pivot (T c) e
  pub next : (k : ℕ) → b' k ≡ exchanged b l e k
  pub pivoted : IsPivoted b b' T T' l e pivot
  pub primitive : (c : ℕ) → Has b c → c ≢ l → IsPrimitive (suc (scale_at p)) (T' c)
