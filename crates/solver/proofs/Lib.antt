pub mod AnewLemmas
pub use Rattle.flow_evaluator.proofs.flow_program as flow_program
