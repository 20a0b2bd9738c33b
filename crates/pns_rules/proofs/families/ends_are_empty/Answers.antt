use Rattle.pns_rules.proofs.StepLemmas.{clashes_are_empty, dead_are_empty}
use Rattle.pns_rules.proofs.families.ends_are_empty.Goals as goal

pub returns-clause-clash : goal.returns-clause-clash
returns-clause-clash c = clashes_are_empty

pub returns-clause-dead : goal.returns-clause-dead
returns-clause-dead c = dead_are_empty
