use Rattle.edit_laws.proofs.MigrationFormLemmas.{migration_formed}
use Rattle.edit_laws.proofs.migration.migrations_are_formed.Goals as goal

pub returns : goal.returns
returns c = migration_formed
