pub mod Children
pub mod Cited
pub mod Linked
pub mod Places
pub mod Order
pub mod Marks
pub mod Sound
pub use Rattle.link_lists.proofs as link_lists
