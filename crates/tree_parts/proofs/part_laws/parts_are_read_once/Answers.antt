use Rattle.tree_parts.proofs.Once.{text_once}
use Rattle.tree_parts.proofs.part_laws.parts_are_read_once.Goals as goal

pub returns : goal.returns
returns c = λ p valid. text_once p ((c.valid_is_well_formed.ensures p).0 valid).few_units
