pub mod Arcs
pub mod Blocks
pub mod Cited
mod DesignLaws
pub mod Designs
pub mod Lists
pub mod Names
pub mod Networks
pub mod Places
pub mod Ranks
pub mod Sides
pub mod Structures
pub mod Sums
pub mod Terms
mod Valid
pub use Rattle.plan_rules.proofs.number_sets as number_sets
