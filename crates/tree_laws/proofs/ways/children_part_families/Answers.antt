use Rattle.tree_laws.proofs.WayLemmas.{of_child, ways_cover, ways_apart}
use Rattle.tree_laws.proofs.ways.children_part_families.Goals as goal

pub returns-clause-cover : goal.returns-clause-cover
returns-clause-cover c = ways_cover

pub returns-clause-within : goal.returns-clause-within
returns-clause-within c = of_child

pub returns-clause-apart : goal.returns-clause-apart
returns-clause-apart c = ways_apart
