use Rattle.rank_text.proofs.Texts.{text_spelled}
use Rattle.rank_text.proofs.laws.read_ranks_are_spelled.Goals as goal

pub returns : goal.returns
returns c =
    λ p valid bytes t e. text_spelled p ((c.valid_is_well_formed.ensures p).0 valid)
    (c.trees_are_taken.ensures p valid) (c.tails_are_read.ensures p valid)
    (c.networks_are_taken.ensures p valid) bytes t e
