pub mod Gathering
pub mod View
pub use Rattle.studio_rules.specs.rank_rules as rank_rules
pub use Rattle.studio_rules.specs.report_rules as report_rules
pub use Rattle.studio_rules.specs as studio_rules
