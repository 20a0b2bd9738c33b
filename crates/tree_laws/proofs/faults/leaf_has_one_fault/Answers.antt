use Rattle.tree_laws.proofs.FaultLemmas.{leaf_rules}
use Rattle.tree_laws.proofs.faults.leaf_has_one_fault.Goals as goal

pub returns : goal.returns
returns c = leaf_rules
