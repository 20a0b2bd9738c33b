pub mod Cited
pub mod Counted
pub mod Cutting
pub mod Entries
pub mod Failing
pub mod FirstLines
pub mod FrontLines
pub mod Joining
pub mod Naming
pub mod NamedSets
pub mod NodeByNode
pub mod RisingUnits
pub mod Scales
pub use Rattle.text_lines.proofs as text_lines
pub use Rattle.branch_tree.proofs.pns_problem as pns_problem
