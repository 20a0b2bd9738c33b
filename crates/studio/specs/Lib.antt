pub mod Calls
pub mod Noted
pub mod RankLaws
pub mod SolveLaws
pub use Rattle.structure_commands.specs.number_sets as number_sets
pub use Rattle.structure_commands.specs.integer_laws as integer_laws
pub use Rattle.structure_commands.specs.problem_rules as problem_rules
pub use Rattle.structure_commands.specs.text_rules as text_rules
pub use Rattle.structure_commands.specs.pns_rules as pns_rules
pub use Rattle.structure_commands.specs.edit_rules as edit_rules
pub use Rattle.structure_commands.specs.flow_rules as flow_rules
pub use Rattle.structure_commands.specs.tree_rules as tree_rules
pub use Rattle.structure_commands.specs.tree_text_rules as tree_text_rules
pub use Rattle.structure_commands.specs.rank_rules as rank_rules
pub use Rattle.structure_commands.specs.report_rules as report_rules
pub use Rattle.structure_commands.specs.plan_rules as plan_rules
pub use Rattle.structure_commands.specs.studio_rules as studio_rules
pub use Rattle.structure_commands.specs.text_laws as text_laws
pub use Rattle.structure_commands.specs.edit_laws as edit_laws
pub use Rattle.structure_commands.specs.tree_laws as tree_laws
pub use Rattle.structure_commands.specs.plan_laws as plan_laws
pub use Rattle.stability_commands.specs.stability_laws as stability_laws
pub use Rattle.structure_commands.specs.pns_io as pns_io
pub use Rattle.part_commands.specs.tree_text_laws as tree_text_laws
pub use Rattle.part_commands.specs.tree_parts as tree_parts
