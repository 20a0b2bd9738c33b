pub mod Tree
pub mod Kin
pub mod Order
pub mod Pooled
pub mod OneList
pub mod Sound
pub mod Lending
pub use Rattle.exact_numbers.specs as exact_numbers
pub use Rattle.link_lists.specs as link_lists
