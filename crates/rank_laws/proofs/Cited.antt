-- What the proofs of other crates cite.
pub use Rattle.rank_laws.proofs.NetworkLemmas.{AtMostLast, at_least_too, at_most_last}
pub use Rattle.rank_laws.proofs.RankedLemmas.{other_costs_enough}
