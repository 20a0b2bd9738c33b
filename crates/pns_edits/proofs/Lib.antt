pub mod MappedLemmas
pub mod MigrationLemmas
pub mod NumberedLemmas
pub mod ScriptSteps
pub mod Sought
pub use Rattle.edit_laws.proofs as edit_laws
pub use Rattle.edit_scripts.proofs as edit_scripts
