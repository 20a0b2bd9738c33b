use Rattle.search_tree.proofs.SoundLemmas.{children_are_sound}
use Rattle.search_tree.proofs.nodes.children_are_sound.Goals as goal

pub returns : goal.returns
returns c = children_are_sound
