-- `migrate FILE YEARS`: the script that turns the yearly costs of a problem into investment costs
-- over so many years. Or the refusal of a problem that has a payout period already, or of a cost
-- that would leave its range.
use Rattle.std.specs.Prelude.{◌≡◌, ◌⊎◌, ◌++◌, ℕ, true, false, List, [], ◌∷◌, Some, None, codes, pos}
use Rattle.report_rules.specs.problem_rules.Problem.{Problem, unit_at}
use Rattle.report_rules.specs.edit_rules.Migration.{has_payout, out_of_range_at, migration}
use Rattle.studio_rules.specs.Script.{printed_lines}
use Rattle.studio_rules.specs.declared.status.Status.{Status}
use Rattle.studio_rules.specs.declared.status.Status.TheVariants.{Done, NotMigrated}

abbrev pub out_of_range_line : List ℕ → List ℕ
out_of_range_line name = codes "out of range " ++ name

-- A payout period or an investment cost is reported first, then the first unit whose cost would
-- leave its range.
abbrev pub NotMigratedLines : ℕ → Problem → List (List ℕ) → Type 0
NotMigratedLines years p lines =
    ((has_payout p ≡ true) × (lines ≡ codes "has payout" ∷ []))
    ⊎ ((has_payout p ≡ false)
    × ((unit : ℕ) × (out_of_range_at (pos years) p ≡ Some unit)
    × (lines ≡ out_of_range_line (unit_at p unit).name ∷ [])))

abbrev pub MigrateWork : ℕ → Problem → Status → List (List ℕ) → Type 0
MigrateWork years p Done lines =
    (has_payout p ≡ false) × (out_of_range_at (pos years) p ≡ None)
    × (lines ≡ printed_lines (migration (pos years) p))
MigrateWork years p NotMigrated lines = NotMigratedLines years p lines
MigrateWork years p status lines = ⊥
