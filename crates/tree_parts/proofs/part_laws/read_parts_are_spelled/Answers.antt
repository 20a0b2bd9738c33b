use Rattle.tree_parts.proofs.Texts.{part_back}
use Rattle.tree_parts.proofs.part_laws.read_parts_are_spelled.Goals as goal

pub returns : goal.returns
returns c = λ p valid. part_back p valid c.rests_are_read.ensures
