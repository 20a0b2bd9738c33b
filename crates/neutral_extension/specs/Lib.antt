pub mod Candidates
pub mod Cells
pub mod Moves
pub mod OpenLeaf
pub mod Tests
pub use Rattle.link_lists.specs as link_lists
