use Rattle.tree_text_laws.proofs.Heads.{head_back}
use Rattle.tree_text_laws.proofs.laws.read_heads_are_spelled.Goals as goal

pub returns : goal.returns
returns c = λ p valid. head_back p ((c.valid_is_well_formed.ensures p).0 valid)
