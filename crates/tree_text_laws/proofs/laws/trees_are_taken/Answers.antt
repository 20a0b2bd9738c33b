use Rattle.tree_text_laws.proofs.Takings.{trees_taken}
use Rattle.tree_text_laws.proofs.laws.trees_are_taken.Goals as goal

pub returns : goal.returns
returns c = λ p valid. trees_taken p ((c.valid_is_well_formed.ensures p).0 valid)
