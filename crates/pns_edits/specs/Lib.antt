pub mod Answer
pub mod Inverse
pub mod Migrate
pub mod Renumbering
pub mod Terms
pub use Rattle.edit_laws.specs as edit_laws
