use Rattle.tree_text_laws.proofs.Heads.{head_again}
use Rattle.tree_text_laws.proofs.laws.spelled_heads_read.Goals as goal

pub returns : goal.returns
returns c = λ p valid. head_again p ((c.valid_is_well_formed.ensures p).0 valid)
