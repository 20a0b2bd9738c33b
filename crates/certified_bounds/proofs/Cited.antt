-- What the proofs of other crates cite.
pub use Rattle.certified_bounds.proofs.BoundLemmas.{bounded_under}
