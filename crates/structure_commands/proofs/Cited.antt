-- What the proofs of other crates cite.
pub use Rattle.structure_commands.proofs.ListingParts.{parts_join}
pub use Rattle.structure_commands.proofs.ListingStart.{not_start, set_of}
