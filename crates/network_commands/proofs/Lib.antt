mod GraphLines
mod HeadLemmas
mod Refusals
mod TableLines
pub use Rattle.verdicts.proofs.number_sets as number_sets
pub use Rattle.verdicts.proofs.text_laws as text_laws
pub use Rattle.verdicts.proofs.rank_laws as rank_laws
pub use Rattle.verdicts.proofs.tree_parts as tree_parts
pub use Rattle.report_tables.proofs.report_amounts as report_amounts
pub use Rattle.report_tables.proofs as report_tables
pub use Rattle.command_files.proofs as command_files
