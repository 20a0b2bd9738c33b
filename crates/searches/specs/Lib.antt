pub mod Found
pub mod Solution
pub use Rattle.command_files.specs.studio_rules as studio_rules
pub use Rattle.headed_search.specs.abb_search as abb_search
pub use Rattle.headed_search.specs.rank_search as rank_search
