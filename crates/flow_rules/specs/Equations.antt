-- The equations of a program, their combinations and their solutions. Each unit has the first, each
-- row the other two:
--
--     x + s = high - low
--     the sum of rate * x, less t = floor - the sum of rate * low
--     t + w = ceiling - floor
use Rattle.std.specs.Prelude.{◌≡◌, ℕ, suc, ◌<◌, ℤ, ◌+ℤ◌, ◌-ℤ◌, ◌*ℤ◌, neg_ℤ}
use Rattle.integer_laws.specs.Total.{total_below}
use Rattle.flow_rules.specs.LinearProgram.{LinearProgram, low_flow}
use Rattle.flow_rules.specs.Columns.{x_at, s_at, t_at, w_at, right_at, scale_at}

-- The row is its entry at the scale times the costs, plus a combination of the equations. Its entry
-- at s says how often the first equation of a unit is in it, its entry at w how often the last of a
-- row. As t and w are in no other equation, the entry at w less that at t says how often the middle
-- one is.
pub record IsCombination (p : LinearProgram) (r : ℕ → ℤ) : Type 0 where
  pub at_x : (i : ℕ) → i < p.units
      → r (x_at p i) ≡ r (scale_at p) *ℤ p.cost i +ℤ r (s_at p i) +ℤ total_below p.rows
      (λ j. (r (w_at p j) -ℤ r (t_at p j)) *ℤ p.rate j i)
  pub at_right : r (right_at p)
      ≡ total_below p.units (λ i. r (s_at p i) *ℤ (p.high i -ℤ p.low i)) +ℤ total_below p.rows
      (λ j. (r (w_at p j) -ℤ r (t_at p j)) *ℤ (p.floor j -ℤ low_flow p j) +ℤ r (w_at p j) *ℤ
      (p.ceiling j -ℤ p.floor j))

-- a row at values of the columns, the right side and the scale among them
abbrev pub dot : LinearProgram → (ℕ → ℤ) → (ℕ → ℤ) → ℤ
dot p r v = total_below (suc (scale_at p)) (λ k. r k *ℤ v k)

-- Values of the columns, over d, that solve the equations. The scale's is the negated cost of x.
pub record IsSolution (p : LinearProgram) (v : ℕ → ℤ) (d : ℤ) : Type 0 where
  pub boxes : (i : ℕ) → i < p.units → v (x_at p i) +ℤ v (s_at p i) ≡ (p.high i -ℤ p.low i) *ℤ d
  pub flows : (j : ℕ) → j < p.rows
      → total_below p.units (λ i. p.rate j i *ℤ v (x_at p i)) -ℤ v (t_at p j)
      ≡ (p.floor j -ℤ low_flow p j) *ℤ d
  pub bands : (j : ℕ) → j < p.rows → v (t_at p j) +ℤ v (w_at p j) ≡ (p.ceiling j -ℤ p.floor j) *ℤ d
  pub costs : v (scale_at p) ≡ neg_ℤ (total_below p.units (λ i. p.cost i *ℤ v (x_at p i)))
