mod LintedTexts
mod LowerRows
mod PlainTree
mod WorkedMeasures
mod WorkedRanking
mod WorkedTable
pub use Rattle.rank_rules.proofs.number_sets as number_sets
pub use Rattle.rank_rules.proofs.integer_laws as integer_laws
pub use Rattle.rank_rules.proofs.problem_rules as problem_rules
pub use Rattle.rank_rules.proofs.flow_rules as flow_rules
