-- The rows at the start of the path. There the basis has all s, t and w, and the scale.
use Rattle.std.specs.Prelude.{◌≡◌, ◌≢◌, ℕ, ◌<◌, ◌≤◌, ℤ, pos, ◌-ℤ◌, neg_ℤ, cond, nat_eq}
use Rattle.flow_rules.specs.LinearProgram.{LinearProgram, low_flow}
use Rattle.flow_rules.specs.Columns.{Has, x_at, s_at, t_at, w_at, right_at, scale_at, start}

-- 1 at k, 0 elsewhere
abbrev pub one_at : ℕ → ℕ → ℤ
one_at k i = cond (nat_eq i k) (pos 1) (pos 0)

-- x + s = high - low for each unit; t and w by x alone; and the costs of x
pub record IsStart (p : LinearProgram) (T : ℕ → ℕ → ℤ) : Type 0 where
  pub own : (c k : ℕ) → Has (start p) c → p.units ≤ k → k ≤ scale_at p → k ≢ right_at p
      → T c k ≡ one_at c k
  pub s_x : (i k : ℕ) → i < p.units → k < p.units → T (s_at p i) (x_at p k) ≡ one_at i k
  pub s_right : (i : ℕ) → i < p.units → T (s_at p i) (right_at p) ≡ p.high i -ℤ p.low i
  pub t_x : (j k : ℕ) → j < p.rows → k < p.units → T (t_at p j) (x_at p k) ≡ neg_ℤ (p.rate j k)
  pub t_right : (j : ℕ) → j < p.rows → T (t_at p j) (right_at p) ≡ neg_ℤ (p.floor j -ℤ low_flow p j)
  pub w_x : (j k : ℕ) → j < p.rows → k < p.units → T (w_at p j) (x_at p k) ≡ p.rate j k
  pub w_right : (j : ℕ) → j < p.rows → T (w_at p j) (right_at p) ≡ p.ceiling j -ℤ low_flow p j
  pub scale_x : (k : ℕ) → k < p.units → T (scale_at p) (x_at p k) ≡ p.cost k
  pub scale_right : T (scale_at p) (right_at p) ≡ pos 0
