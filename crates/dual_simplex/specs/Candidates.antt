-- The columns among which the one that enters is chosen: those at which the row of the column l
-- that leaves is below 0. They are compared by their vectors over minus that entry, which is their
-- size.
use Rattle.std.specs.Prelude.{◌≡◌, ◌≢◌, ℕ, suc, ◌<◌, ℤ, pos, ◌*ℤ◌, neg_ℤ, ◌<ℤ◌, ◌≤ℤ◌, Option, Some}
use Rattle.std.specs.Prelude.{None}
use Rattle.flow_program.specs.flow_rules.Lexicographic.{IsBefore}
use Rattle.flow_program.specs.flow_rules.Vectors.{gain}
use Rattle.dual_simplex.specs.Rows.{Rows, table, basis}
use Rattle.dual_simplex.specs.Choice.{columns_of, scale_of}
use Rattle.dual_simplex.specs.declared.candidates.Candidate.{Candidate}

-- the vector of a column
abbrev pub vector : Rows → ℕ → ℕ → ℤ
vector r j q = gain (basis r) (table r) (scale_of r) j q

-- the vector of i over a comes before that of j over b
abbrev pub ComesBefore : Rows → ℕ → ℤ → ℕ → ℤ → Type 0
ComesBefore r i a j b =
    IsBefore (suc (columns_of r)) (λ q. b *ℤ vector r i q) (λ q. a *ℤ vector r j q)

-- of the columns below k, e has the least
pub record IsLeastBelow (r : Rows) (l k e : ℕ) : Type 0 where
  pub column : e < k
  pub negative : table r l e <ℤ pos 0
  pub least : (j : ℕ) → j < k → table r l j <ℤ pos 0 → j ≢ e
      → ComesBefore r e (neg_ℤ (table r l e)) j (neg_ℤ (table r l j))

-- the candidate with the least of them, if there is one
abbrev pub IsBestBelow : Rows → ℕ → ℕ → Option Candidate → Type 0
IsBestBelow r l k None = (j : ℕ) → j < k → pos 0 ≤ℤ table r l j
IsBestBelow r l k (Some c) = IsLeastBelow r l k c.column × (c.size ≡ neg_ℤ (table r l c.column))
