use Rattle.tree_text_laws.proofs.Takings.{headed_rests_read}
use Rattle.tree_text_laws.proofs.laws.headed_rests_are_read.Goals as goal

pub returns : goal.returns
returns c = λ p valid. headed_rests_read p ((c.valid_is_well_formed.ensures p).0 valid)
