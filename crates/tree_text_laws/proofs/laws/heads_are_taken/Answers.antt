use Rattle.tree_text_laws.proofs.Takings.{heads_taken}
use Rattle.tree_text_laws.proofs.laws.heads_are_taken.Goals as goal

pub returns : goal.returns
returns c = λ p valid. heads_taken p ((c.valid_is_well_formed.ensures p).0 valid)
