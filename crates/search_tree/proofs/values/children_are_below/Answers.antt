use Rattle.search_tree.proofs.BelowLemmas.{children_are_below, steps_lead_below}
use Rattle.search_tree.proofs.values.children_are_below.Goals as goal

pub returns-clause-children : goal.returns-clause-children
returns-clause-children c = children_are_below

pub returns-clause-steps : goal.returns-clause-steps
returns-clause-steps c = steps_lead_below
