mod Behind
pub mod Lines
mod MergeLines
mod PartFiles
mod Parts
mod Starts
pub use Rattle.network_commands.proofs.rank_laws as rank_laws
pub use Rattle.network_commands.proofs.tree_parts as tree_parts
