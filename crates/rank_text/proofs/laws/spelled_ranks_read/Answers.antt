use Rattle.rank_text.proofs.Texts.{text_read}
use Rattle.rank_text.proofs.laws.spelled_ranks_read.Goals as goal

pub returns : goal.returns
returns c =
    λ p valid t fits. text_read p ((c.valid_is_well_formed.ensures p).0 valid)
    (c.trees_are_taken.ensures p valid) (c.tails_are_read.ensures p valid)
    (c.networks_are_taken.ensures p valid) t fits
