use Rattle.pns_rules.proofs.StepLemmas.{children_cover, children_apart}
use Rattle.pns_rules.proofs.options.children_split_families.Goals as goal

pub returns-clause-cover : goal.returns-clause-cover
returns-clause-cover c = children_cover

pub returns-clause-apart : goal.returns-clause-apart
returns-clause-apart c = children_apart
