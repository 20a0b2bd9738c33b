-- What the proofs of other crates cite.
pub use Rattle.edit_scripts.proofs.ReadIsFormed.{amount_formed, bounds_formed, read_formed}
