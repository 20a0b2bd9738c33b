pub mod Cited
pub mod FormLemmas
pub mod Goodness
pub mod ListLemmas
pub mod NameLemmas
pub mod NumberLemmas
pub mod Rows
pub mod ScriptLemmas
pub mod SideLemmas
pub mod Soundness
pub mod SoundLemmas
pub mod UndoLemmas
pub mod ValidLemmas
mod EditsRead
mod ScriptLines
mod SidesRead
mod Tokens
mod TokensRead
pub mod MigrationFlowLemmas
pub mod MigrationFormLemmas
pub mod MigrationUnitLemmas
pub use Rattle.edit_rules.proofs.problem_rules as problem_rules
