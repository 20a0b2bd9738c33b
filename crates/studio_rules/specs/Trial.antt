-- `trial NUMBER UNITS BUDGET`: the search of the problem that `make` prints for the same numbers,
-- with a summary of what it solves.
use Rattle.std.specs.Prelude.{ℕ, List}
use Rattle.report_rules.specs.problem_rules.Generated.{generated}
use Rattle.studio_rules.specs.Summary.{SummaryWork}
use Rattle.studio_rules.specs.declared.status.Status.{Status}

abbrev pub TrialWork : ℕ → ℕ → ℕ → Status → List (List ℕ) → Type 0
TrialWork number units budget = SummaryWork budget (generated number units)
