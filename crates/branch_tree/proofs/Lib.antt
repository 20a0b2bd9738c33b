pub mod ScaledLemmas
pub use Rattle.pgraph.proofs.pns_problem as pns_problem
