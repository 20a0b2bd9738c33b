pub mod First
pub mod Opened
pub mod Unfolded
pub mod View
pub use Rattle.report_amounts.specs.node_evaluation as node_evaluation
