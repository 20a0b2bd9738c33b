-- What the proofs of other crates cite.
pub use Rattle.tree_laws.proofs.AcceptedLemmas.{leaves_are_apart, partial_is_accepted}
pub use Rattle.tree_laws.proofs.ApartLemmas.{leaves_apart}
pub use Rattle.tree_laws.proofs.CappedLemmas.{capped_at, capped_length, capped_self}
pub use Rattle.tree_laws.proofs.CountLemmas.{child_count, double, free_count, length-listed}
pub use Rattle.tree_laws.proofs.CountLemmas.{length-subsets, options_at_most}
pub use Rattle.tree_laws.proofs.CoverLemmas.{IsUnder, covers}
pub use Rattle.tree_laws.proofs.EmptyLemmas.{by_fails, by_passes, fault_too}
pub use Rattle.tree_laws.proofs.FaultLemmas.{claim_one, claim_passes, holds, leaf_one, leaf_passes}
pub use Rattle.tree_laws.proofs.FaultLemmas.{neither, none, one_of, tree_one, tree_passes}
pub use Rattle.tree_laws.proofs.FewLemmas.{Splits, below_weight, few, may_end, steps_count, weight}
pub use Rattle.tree_laws.proofs.FewLemmas.{weight-append, weight_of}
pub use Rattle.tree_laws.proofs.LeafLemmas.{HasScale, leaf_holds}
pub use Rattle.tree_laws.proofs.OpenLemmas.{passes_too}
pub use Rattle.tree_laws.proofs.SidesLemmas.{stands_apart}
pub use Rattle.tree_laws.proofs.UpLemmas.{IsOver, over_goes_up}
pub use Rattle.tree_laws.proofs.WayLemmas.{IsChoice, child_apart, choices, free_parts, only}
