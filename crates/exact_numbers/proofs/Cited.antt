-- What the proofs of other crates cite.
pub use Rattle.exact_numbers.proofs.Division.{IsRowGcd-more, divided_more, entry_left}
pub use Rattle.exact_numbers.proofs.Division.{quotient_exact, reduced_from_quotients}
pub use Rattle.exact_numbers.proofs.LowestLemmas.{common_positive, lowest_coprime, lowest_same}
pub use Rattle.exact_numbers.proofs.RangeLemmas.{fits_from_range}
