-- What the proofs of other crates cite.
pub use Rattle.node_evaluation.proofs.BestLemmas.{children_after, improved_after}
pub use Rattle.node_evaluation.proofs.ChildLemmas.{comes, cost_is, found_best, same_costs}
pub use Rattle.node_evaluation.proofs.ChoiceLemmas.{decides, end_known, may_branch, next_count}
pub use Rattle.node_evaluation.proofs.ChoiceLemmas.{option_count_is, undecided_there, width_is}
pub use Rattle.node_evaluation.proofs.LookLemmas.{under_value}
pub use Rattle.node_evaluation.proofs.SolvedLemmas.{solved_by}
