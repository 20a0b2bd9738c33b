-- What the proofs of other crates cite.
pub use Rattle.flow_program.proofs.BoundSumLemmas.{IsReducedSoFar, difference_past, least_at_high}
pub use Rattle.flow_program.proofs.BoundSumLemmas.{least_at_low, materials_are_rows, product_past}
pub use Rattle.flow_program.proofs.BoundSumLemmas.{reduced_ends, reduced_more, same_reduced}
pub use Rattle.flow_program.proofs.BoundSumLemmas.{second_past}
pub use Rattle.flow_program.proofs.FeasibleLemmas.{units_are}
pub use Rattle.flow_program.proofs.NodeSetLemmas.{listed_had, mats_known, set_listed}
pub use Rattle.flow_program.proofs.ProgramLemmas.{program_is, range_formed}
pub use Rattle.flow_program.proofs.RateLemmas.{rate_in_range}
pub use Rattle.flow_program.proofs.SizeLemmas.{fits_small, size_add, size_mul, size_sub}
pub use Rattle.flow_program.proofs.WalkLemmas.{IsNext, has-first, has-rest, has_next, head_had}
pub use Rattle.flow_program.proofs.WalkLemmas.{next_of, passed, rest_within, walk_next}
