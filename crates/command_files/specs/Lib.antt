pub mod Script
pub use Rattle.studio_words.specs.rank_rules as rank_rules
pub use Rattle.studio_words.specs.report_rules as report_rules
pub use Rattle.periods.specs.plan_rules as plan_rules
pub use Rattle.studio_words.specs.studio_rules as studio_rules
pub use Rattle.pns_edits.specs.edit_laws as edit_laws
pub use Rattle.periods.specs.plan_laws as plan_laws
pub use Rattle.tree_text.specs.pns_io as pns_io
pub use Rattle.tree_reading.specs as tree_reading
pub use Rattle.tree_text.specs as tree_text
pub use Rattle.studio_words.specs as studio_words
