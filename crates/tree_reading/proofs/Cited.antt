-- What the proofs of other crates cite.
pub use Rattle.tree_reading.proofs.Cutting.{more_pieces}
pub use Rattle.tree_reading.proofs.Naming.{no_material, no_unit}
pub use Rattle.tree_reading.proofs.NodeByNode.{each_last}
