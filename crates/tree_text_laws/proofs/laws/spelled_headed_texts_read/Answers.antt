use Rattle.tree_text_laws.proofs.HeadedText.{headed_read}
use Rattle.tree_text_laws.proofs.laws.spelled_headed_texts_read.Goals as goal

pub returns : goal.returns
returns c = λ p valid. headed_read p ((c.valid_is_well_formed.ensures p).0 valid)
