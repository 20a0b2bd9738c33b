use Rattle.edit_laws.proofs.ValidLemmas.{well_from_valid}
use Rattle.edit_laws.proofs.MigrationUnitLemmas.{pays_once, migration_leads}
use Rattle.edit_laws.proofs.migration.migrations_apply.Goals as goal

pub returns : goal.returns
returns c =
    λ p valid once years.
    (migration_leads years p (pays_once p once).units
    (well_from_valid p valid).sound.units_apart).can
