-- The rates of a unit, each at the number of its material.
use Rattle.std.specs.Prelude.{◌≡◌, ◌<◌, ℕ, ℤ, pos, true, false, List, length, slice_index_or}
use Rattle.pgraph.specs.number_sets.Sets.{has}
use Rattle.pgraph.specs.problem_rules.Problem.{Problem, rate_of}
use Rattle.pgraph.specs.problem_rules.WellFormed.{IsInRange}

-- `materials` are those of unit u, and each of them has its rate in the table, which is not 0
pub record AreRates (p : Problem) (u : ℕ) (materials : List ℕ) (rates : List ℤ) : Type 0 where
  pub size : length rates ≡ 256
  pub known : (j : ℕ) → has materials j ≡ true → j < length p.materials
  pub rate : (j : ℕ) → has materials j ≡ true → slice_index_or rates j (pos 0) ≡ rate_of p j u
  pub in_range : (j : ℕ) → IsInRange (rate_of p j u)
  pub not_zero : (j : ℕ) → has materials j ≡ true → rate_of p j u ≡ pos 0 → ⊥
  pub none_else : (j : ℕ) → has materials j ≡ false → rate_of p j u ≡ pos 0
