-- What the proofs of other crates cite.
pub use Rattle.structure_list.proofs.DigitLemmas.{no_digits, step_print}
pub use Rattle.structure_list.proofs.TokenLemmas.{token_has_form, token_one}
