use Rattle.text_rules.specs.problem_rules.Generated.{generated}
use Rattle.pns_problem.proofs.ValidLemmas.{generated_is_well_formed}
use Rattle.pns_problem.proofs.generator_problem.generated_is_valid.Goals as goal

pub returns : goal.returns
returns c =
    λ number units some few. (c.valid_is_well_formed.ensures (generated number units)).1
    (generated_is_well_formed number units few)
