pub mod DistinctListed
pub mod DistinctTurns
pub mod Found
pub mod Listed
pub mod Listing
pub mod Names
pub mod Naming
pub mod Plants
pub mod Ranked
pub mod Telling
pub mod Told
pub mod Turns
pub use Rattle.abb_search.specs as abb_search
