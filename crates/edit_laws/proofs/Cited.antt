-- What the proofs of other crates cite.
pub use Rattle.edit_laws.proofs.Goodness.{IsGoodMaterial, IsGoodUnit, IsWell}
pub use Rattle.edit_laws.proofs.ListLemmas.{Each-at, Each-set, map-at}
pub use Rattle.edit_laws.proofs.NameLemmas.{bytes_same, knows-at}
pub use Rattle.edit_laws.proofs.SoundLemmas.{material_kept, product_kept, unit_kept}
pub use Rattle.edit_laws.proofs.Soundness.{IsSoundUnit}
pub use Rattle.edit_laws.proofs.ValidLemmas.{edit_keeps_valid, valid_from_well, well_from_valid}
