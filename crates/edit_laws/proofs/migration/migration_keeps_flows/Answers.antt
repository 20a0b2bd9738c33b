use Rattle.std.proofs.Common.{sym, subst}
use Rattle.edit_rules.specs.problem_rules.Problem.{Problem}
use Rattle.edit_laws.proofs.ValidLemmas.{well_from_valid}
use Rattle.edit_laws.specs.MigrationLaws.{IsMigrated}
use Rattle.edit_laws.proofs.MigrationUnitLemmas.{pays_once, migration_leads}
use Rattle.edit_laws.proofs.MigrationFlowLemmas.{is_migrated}
use Rattle.edit_laws.proofs.migration.migration_keeps_flows.Goals as goal

pub returns : goal.returns
returns c = λ p valid once years.
    let h = pays_once p once in
    let leads = migration_leads years p h.units (well_from_valid p valid).sound.units_apart in
    subst (λ (q : Problem). IsMigrated years p q) (sym leads.same) (is_migrated years p h)
