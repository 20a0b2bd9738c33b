pub mod Judged
pub mod Listing
pub mod ListingLaws
pub mod Meant
pub use Rattle.text_lines.specs.number_sets as number_sets
pub use Rattle.cert_check.specs.integer_laws as integer_laws
pub use Rattle.text_lines.specs.problem_rules as problem_rules
pub use Rattle.text_lines.specs.text_rules as text_rules
pub use Rattle.cert_check.specs.pns_rules as pns_rules
pub use Rattle.text_lines.specs.edit_rules as edit_rules
pub use Rattle.cert_check.specs.flow_rules as flow_rules
pub use Rattle.cert_check.specs.tree_rules as tree_rules
pub use Rattle.cert_check.specs.tree_text_rules as tree_text_rules
pub use Rattle.command_files.specs.rank_rules as rank_rules
pub use Rattle.command_files.specs.report_rules as report_rules
pub use Rattle.command_files.specs.plan_rules as plan_rules
pub use Rattle.command_files.specs.studio_rules as studio_rules
pub use Rattle.text_lines.specs.text_laws as text_laws
pub use Rattle.command_files.specs.edit_laws as edit_laws
pub use Rattle.cert_check.specs.tree_laws as tree_laws
pub use Rattle.command_files.specs.plan_laws as plan_laws
pub use Rattle.command_files.specs.pns_io as pns_io
pub use Rattle.command_files.specs.studio_words as studio_words
