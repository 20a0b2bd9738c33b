use Rattle.tree_text_laws.proofs.Takings.{ends_taken}
use Rattle.tree_text_laws.proofs.laws.ends_are_taken.Goals as goal

pub returns : goal.returns
returns c = λ p valid. ends_taken p ((c.valid_is_well_formed.ensures p).0 valid)
