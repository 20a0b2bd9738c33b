use Rattle.tree_text_laws.proofs.HeadedText.{headed_spelled}
use Rattle.tree_text_laws.proofs.laws.read_headed_texts_are_spelled.Goals as goal

pub returns : goal.returns
returns c = λ p valid bytes x e. let b =
    headed_spelled p ((c.valid_is_well_formed.ensures p).0 valid) bytes x e in
    record { text = b.0; fits = b.1 }
