-- What the tactics of this crate unfold.
unfoldable pub use Rattle.network_commands.specs.studio_rules.RankReport.{all_words, best_words}
unfoldable pub use Rattle.network_commands.specs.studio_rules.RankReport.{contained_words}
unfoldable pub use Rattle.network_commands.specs.studio_rules.RankReport.{ranked_words}
