pub mod Ascii
pub mod Borrowed
pub mod Cited
pub mod Cutting
pub mod Fronts
pub mod Maps
pub mod Naming
pub mod Sides
pub mod Tens
pub mod Whole
pub use Rattle.edit_rules.proofs.number_sets as number_sets
pub use Rattle.edit_rules.proofs.problem_rules as problem_rules
pub use Rattle.text_laws.proofs as text_laws
