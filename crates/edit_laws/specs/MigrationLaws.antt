-- The laws of the migration from yearly costs to investment costs. Each is the contract of a public
-- function of this crate. The laws on problems that take a migration are of valid problems with a
-- payout period of 1 year and no investment costs.
use Rattle.std.specs.Prelude.{◌≡◌, ◌↔◌, ◌*ℤ◌, ℕ, Bool, false, None, ℤ}
use Rattle.edit_rules.specs.problem_rules.Problem.{Problem}
use Rattle.edit_rules.specs.problem_rules.Each.{Each}
use Rattle.edit_rules.specs.problem_rules.Validity.{IsValid}
use Rattle.edit_rules.specs.Formed.{IsFormed, IsPayout}
use Rattle.edit_rules.specs.Migration.{has_payout, out_of_range_at, migration}
use Rattle.edit_rules.specs.Script.{applied, CanApply}
use Rattle.flow_rules.specs.Net.{net_of}
use Rattle.flow_rules.specs.Flows.{IsFlows, cost}

-- the edits of a migration have no fault of form, if no cost goes out of range
abbrev pub MigrationsAreFormed : Type 0
MigrationsAreFormed =
    (p : Problem) → IsValid p → (years : ℤ) → IsPayout years → out_of_range_at years p ≡ None
    → Each IsFormed (migration years p)

-- the problem takes them
abbrev pub MigrationsApply : Type 0
MigrationsApply = (p : Problem) → IsValid p → has_payout p ≡ false → (years : ℤ)
    → CanApply p (migration years p)

-- q has the flows of p, for each set of units, and its cost numerators are years times those of p
pub record IsMigrated (years : ℤ) (p q : Problem) : Type 0 where
  pub same_flows : (s : ℕ → Bool) (z : ℕ → ℤ) (d : ℤ) → IsFlows (net_of p) s z d
      ↔ IsFlows (net_of q) s z d
  pub cost_times_years : (s : ℕ → Bool) (z : ℕ → ℤ) (d : ℤ)
      → cost (net_of q) s z d ≡ years *ℤ cost (net_of p) s z d

abbrev pub MigrationKeepsFlows : Type 0
MigrationKeepsFlows =
    (p : Problem) → IsValid p → has_payout p ≡ false → (years : ℤ)
    → IsMigrated years p (applied p (migration years p))
