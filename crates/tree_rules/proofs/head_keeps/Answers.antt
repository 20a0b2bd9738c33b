use Rattle.tree_rules.proofs.HeadLemmas.{head_keeps, head_has_facts, head_keeps_least}
use Rattle.tree_rules.proofs.head_keeps.Goals as goal

pub returns-clause-keeps : goal.returns-clause-keeps
returns-clause-keeps c = head_keeps

pub returns-clause-facts : goal.returns-clause-facts
returns-clause-facts c = head_has_facts

pub returns-clause-least : goal.returns-clause-least
returns-clause-least c = head_keeps_least
