-- What the proofs of other crates cite.
pub use Rattle.pns_rules.proofs.DecideLemmas.{allowed_if, structure_if}
pub use Rattle.pns_rules.proofs.ListingLemmas.{goes_back, goes_on, listing_is_one, listing_resumes}
pub use Rattle.pns_rules.proofs.OptionLemmas.{base_set, free_set, makers_apart, options_all}
pub use Rattle.pns_rules.proofs.OptionLemmas.{options_ascend}
pub use Rattle.pns_rules.proofs.OrderLemmas.{before_apart, before_at, before_not_after}
pub use Rattle.pns_rules.proofs.OrderLemmas.{before_trans, same_set}
pub use Rattle.pns_rules.proofs.PathLemmas.{found_in, found_leads, path_found}
pub use Rattle.pns_rules.proofs.ProperLemmas.{proper_if_valid}
pub use Rattle.pns_rules.proofs.StepLemmas.{children_cover, clashes_are_empty, dead_are_empty}
pub use Rattle.pns_rules.proofs.StepLemmas.{steps_keep_families}
pub use Rattle.pns_rules.proofs.StructureLemmas.{HasPath-within, a_maker, is_made-from}
pub use Rattle.pns_rules.proofs.StructureLemmas.{is_made-some, is_made-within, is_used-from}
pub use Rattle.pns_rules.proofs.StructureLemmas.{is_used-some, is_used-within, mats-within}
pub use Rattle.pns_rules.proofs.StructureLemmas.{raw_unmade, used_in}
pub use Rattle.pns_rules.proofs.StructureList.{is_structure_in, structure_is_in, structures_of}
pub use Rattle.pns_rules.proofs.TraceLemmas.{is_units, least_some, next_at}
