-- What the proofs of other crates cite.
pub use Rattle.tree_parts.proofs.ReorderLemmas.{Reorders, next, reorders, stay, turn, under}
pub use Rattle.tree_parts.proofs.Tokens.{one_set, wider}
