-- What the proofs of other crates cite.
pub use Rattle.studio_words.proofs.Within.{words_within}
