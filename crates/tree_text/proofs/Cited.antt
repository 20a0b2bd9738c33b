-- What the proofs of other crates cite.
pub use Rattle.tree_text.proofs.Appending.{line_made}
pub use Rattle.tree_text.proofs.Printed.{ArePrinted, item_ahead, none_put, part_failed, printed_as}
pub use Rattle.tree_text.proofs.Printed.{then_failed, then_printed, two_printed}
