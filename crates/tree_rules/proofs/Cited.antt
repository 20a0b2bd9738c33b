-- What the proofs of other crates cite.
pub use Rattle.tree_rules.proofs.ChargedLemmas.{charged_is_empty}
pub use Rattle.tree_rules.proofs.HeadLemmas.{head_has_facts, head_keeps}
pub use Rattle.tree_rules.proofs.SumLemmas.{greatest_first}
