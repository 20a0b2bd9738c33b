pub mod Aligned
pub mod Amounts
pub mod Clash
pub mod Decimal
pub mod Drawn
pub mod Facts
pub mod Graph
pub mod HeadedVerdict
pub mod Item
pub mod Json
pub mod JsonLower
pub mod JsonRanked
pub mod Lint
pub mod Lower
pub mod Marginal
pub mod Measures
pub mod Number
pub mod Object
pub mod Range
pub mod RangeTable
pub mod RankLow
pub mod RankVerdict
pub mod Ranked
pub mod Report
pub mod Rise
pub mod Spot
pub mod Table
pub mod Value
pub mod Verdict
pub mod Warned
pub mod Words
pub use Rattle.rank_rules.specs.number_sets as number_sets
pub use Rattle.rank_rules.specs.integer_laws as integer_laws
pub use Rattle.rank_rules.specs.problem_rules as problem_rules
pub use Rattle.rank_rules.specs.text_rules as text_rules
pub use Rattle.rank_rules.specs.pns_rules as pns_rules
pub use Rattle.rank_rules.specs.edit_rules as edit_rules
pub use Rattle.rank_rules.specs.flow_rules as flow_rules
pub use Rattle.rank_rules.specs.tree_rules as tree_rules
pub use Rattle.rank_rules.specs.tree_text_rules as tree_text_rules
pub use Rattle.rank_rules.specs as rank_rules
