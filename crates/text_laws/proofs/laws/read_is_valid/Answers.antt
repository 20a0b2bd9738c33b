use Rattle.text_laws.proofs.ReadIsWellFormed.{read_is_well_formed as law}
use Rattle.text_laws.proofs.laws.read_is_valid.Goals as goal

pub returns : goal.returns
returns c = λ bytes p reads. (c.valid_is_well_formed.ensures p).1 (law bytes p reads)
