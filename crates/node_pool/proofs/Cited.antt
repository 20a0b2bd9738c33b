-- What the proofs of other crates cite.
pub use Rattle.node_pool.proofs.Order.{has-placed}
