use Rattle.tree_parts.proofs.Texts.{part_read}
use Rattle.tree_parts.proofs.part_laws.spelled_parts_read.Goals as goal

pub returns : goal.returns
returns c = λ p valid. part_read p valid c.rests_are_read.ensures c.spelled_texts_read.ensures
