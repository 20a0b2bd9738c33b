-- What the proofs of other crates cite.
pub use Rattle.studio_rules.proofs.Maximal.{maximal_from, none_from}
