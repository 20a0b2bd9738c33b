use Rattle.tree_text_laws.proofs.Takings.{tails_read}
use Rattle.tree_text_laws.proofs.laws.tails_are_read.Goals as goal

pub returns : goal.returns
returns c = λ p valid. tails_read p ((c.valid_is_well_formed.ensures p).0 valid)
