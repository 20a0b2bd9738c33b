use Rattle.tree_text_laws.proofs.WholeText.{text_read}
use Rattle.tree_text_laws.proofs.laws.spelled_texts_read.Goals as goal

pub returns : goal.returns
returns c = λ p valid. text_read p ((c.valid_is_well_formed.ensures p).0 valid)
