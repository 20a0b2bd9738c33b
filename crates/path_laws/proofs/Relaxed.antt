-- The relaxed flow program, its cost and its bounds, over units and rows that are numbered from 0.
use Rattle.std.specs.Prelude.{ℕ, ◌<◌, ℤ, pos, ◌+ℤ◌, ◌-ℤ◌, ◌*ℤ◌, ◌<ℤ◌, ◌≤ℤ◌}
use Rattle.std.specs.Int.{int_min}
use Rattle.flow_rules.specs.integer_laws.Total.{total_below}
use Rattle.flow_rules.specs.LinearProgram.{LinearProgram}

-- the flow of row j at the sizes Z
abbrev pub flow : LinearProgram → (ℕ → ℤ) → ℕ → ℤ
flow p Z j = total_below p.units (λ i. p.rate j i *ℤ Z i)

pub record IsRelaxedFlow (p : LinearProgram) (Z : ℕ → ℤ) (d : ℤ) : Type 0 where
  pub positive : pos 0 <ℤ d
  pub from : (i : ℕ) → i < p.units → (p.low i *ℤ d) ≤ℤ Z i
  pub upto : (i : ℕ) → i < p.units → Z i ≤ℤ (p.high i *ℤ d)
  pub enough : (j : ℕ) → j < p.rows → (p.floor j *ℤ d) ≤ℤ flow p Z j
  pub within : (j : ℕ) → j < p.rows → flow p Z j ≤ℤ (p.ceiling j *ℤ d)

-- the relaxed cost, over d
abbrev pub relaxed_cost : LinearProgram → (ℕ → ℤ) → ℤ → ℤ
relaxed_cost p Z d = p.fixed *ℤ d +ℤ total_below p.units (λ i. p.cost i *ℤ Z i)

-- what is left of a unit's cost
abbrev pub left_over : LinearProgram → ℤ → (ℕ → ℤ) → ℕ → ℤ
left_over p D Y i = D *ℤ p.cost i -ℤ total_below p.rows (λ j. Y j *ℤ p.rate j i)

-- what a row and a unit give to the bound of multipliers Y over D
abbrev pub row_part : LinearProgram → (ℕ → ℤ) → ℕ → ℤ
row_part p Y j = int_min (Y j *ℤ p.floor j) (Y j *ℤ p.ceiling j)

abbrev pub unit_part : LinearProgram → ℤ → (ℕ → ℤ) → ℕ → ℤ
unit_part p D Y i = int_min (left_over p D Y i *ℤ p.low i) (left_over p D Y i *ℤ p.high i)

abbrev pub bound : LinearProgram → ℤ → (ℕ → ℤ) → ℤ
bound p D Y =
    D *ℤ p.fixed +ℤ total_below p.rows (row_part p Y) +ℤ total_below p.units (unit_part p D Y)

-- no range is empty
pub record IsOpen (p : LinearProgram) : Type 0 where
  pub boxes : (i : ℕ) → i < p.units → p.low i ≤ℤ p.high i
  pub bands : (j : ℕ) → j < p.rows → p.floor j ≤ℤ p.ceiling j
