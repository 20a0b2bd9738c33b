use Rattle.tree_rules.proofs.ChargedLemmas.{cheaper_is_charged, cheaper_passes}
use Rattle.tree_rules.proofs.cheaper_passes.Goals as goal

pub returns-clause-charged : goal.returns-clause-charged
returns-clause-charged c = cheaper_is_charged

pub returns-clause-lines : goal.returns-clause-lines
returns-clause-lines c = cheaper_passes
