use Rattle.search_tree.proofs.NumberLemmas.{steps_free_none}
use Rattle.search_tree.proofs.ReducedLemmas.{reduced_is_within, free_units_are_few}
use Rattle.search_tree.proofs.nodes.free_units_are_few.Goals as goal

pub returns-clause-within : goal.returns-clause-within
returns-clause-within c =
    λ g n all proper sound reduced union. reduced_is_within g n proper sound reduced all union

pub returns-clause-few : goal.returns-clause-few
returns-clause-few c =
    λ g n all proper sound reduced union. free_units_are_few g n proper sound reduced all union

pub returns-clause-steps : goal.returns-clause-steps
returns-clause-steps c = steps_free_none
