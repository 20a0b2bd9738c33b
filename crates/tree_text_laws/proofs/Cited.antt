-- What the proofs of other crates cite.
pub use Rattle.tree_text_laws.proofs.ClaimLines.{cost_line, network_line, sizes_line}
pub use Rattle.tree_text_laws.proofs.Codes.{AreFields, both_ok, formed_again, formed_ok}
pub use Rattle.tree_text_laws.proofs.Codes.{judged_again, judged_ok, mapped_ok, more_fields}
pub use Rattle.tree_text_laws.proofs.Codes.{one_fields}
pub use Rattle.tree_text_laws.proofs.Decimals.{children, counts, number_code}
pub use Rattle.tree_text_laws.proofs.NodeLines.{all_each, each_all}
pub use Rattle.tree_text_laws.proofs.Nodes.{tree_tokens}
pub use Rattle.tree_text_laws.proofs.PartTexts.{first_again, first_back, good_is, on_line_ok}
pub use Rattle.tree_text_laws.proofs.PartTexts.{then_ok}
pub use Rattle.tree_text_laws.proofs.Pieces.{HasNoFeed, text_again, text_back}
pub use Rattle.tree_text_laws.proofs.Said.{formed_said, line_from, no_feed, tokens_said}
pub use Rattle.tree_text_laws.proofs.Tails.{tail_no_set, tail_tokens}
