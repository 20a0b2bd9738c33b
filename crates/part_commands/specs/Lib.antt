pub mod Found
pub use Rattle.network_commands.specs.rank_laws as rank_laws
pub use Rattle.network_commands.specs.tree_text_laws as tree_text_laws
pub use Rattle.network_commands.specs.tree_parts as tree_parts
