-- The tableau of a basis. For each of its columns it has the one combination of the equations in
-- lowest terms that has a positive entry there and 0 at the other columns of the basis. The row of
-- the scale is the cost row.
use Rattle.std.specs.Prelude.{◌≡◌, ◌≢◌, ℕ, suc, ◌<◌, ◌≤◌, ℤ, pos, neg_ℤ, ◌<ℤ◌, unsigned_abs}
use Rattle.std.specs.Int.{◌∣◌}
use Rattle.flow_rules.specs.LinearProgram.{LinearProgram}
use Rattle.flow_rules.specs.Columns.{Basis, Has, right_at, scale_at}
use Rattle.flow_rules.specs.Equations.{IsCombination, IsSolution, dot}

-- The equations determine the columns of the basis from the others: a combination of them that is 0
-- at all columns of the basis is 0 everywhere.
abbrev pub IsIndependent : LinearProgram → Basis → Type 0
IsIndependent p b = (r : ℕ → ℤ) → IsCombination p r → ((k : ℕ) → Has b k → r k ≡ pos 0) → (k : ℕ)
    → k ≤ scale_at p → r k ≡ pos 0

-- no number above 1 divides each of the first n entries
abbrev pub IsPrimitive : ℕ → (ℕ → ℤ) → Type 0
IsPrimitive n r = (d : ℕ) → ((k : ℕ) → k < n → d ∣ unsigned_abs (r k)) → d ≡ 1

-- the row of the basis column c
pub record IsRowOf (p : LinearProgram) (b : Basis) (c : ℕ) (r : ℕ → ℤ) : Type 0 where
  pub combination : IsCombination p r
  pub own : pos 0 <ℤ r c
  pub others : (k : ℕ) → Has b k → k ≢ c → r k ≡ pos 0
  pub primitive : IsPrimitive (suc (scale_at p)) r

-- rows k is the row of each basis column k; what it is for other k does not matter
abbrev pub IsTableau : LinearProgram → Basis → (ℕ → ℕ → ℤ) → Type 0
IsTableau p b rows = (c : ℕ) → Has b c → IsRowOf p b c (rows c)

-- what solves the rows solves the equations
abbrev pub IsComplete : LinearProgram → Basis → (ℕ → ℕ → ℤ) → Type 0
IsComplete p b rows = (v : ℕ → ℤ) (d : ℤ) → v (right_at p) ≡ neg_ℤ d
    → ((c : ℕ) → Has b c → dot p (rows c) v ≡ pos 0) → IsSolution p v d
