-- What an answer of the call `migrate` says.
use Rattle.std.specs.Prelude.{◌≡◌, ℕ, true, false, Some, pos}
use Rattle.edit_laws.specs.problem_rules.Problem.{Problem}
use Rattle.edit_laws.specs.edit_rules.Migration.{has_payout, out_of_range_at}
use Rattle.pns_edits.specs.declared.migration.MigrateFault.{MigrateFault}
use Rattle.pns_edits.specs.declared.migration.MigrateFault.TheVariants.{HasPayout, OutOfRange}
use Rattle.pns_edits.specs.declared.migration.MigrateFault.TheVariants.{Memory}

-- out of memory; or there is a payout period or an investment cost; or there is none, and this unit
-- is the first whose cost would be out of range
abbrev pub TellsMigration : ℕ → Problem → MigrateFault → Type 0
TellsMigration years p HasPayout = has_payout p ≡ true
TellsMigration years p (OutOfRange unit) =
    (has_payout p ≡ false) × (out_of_range_at (pos years) p ≡ Some unit)
TellsMigration years p Memory = Unit {0}
