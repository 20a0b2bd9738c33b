use Rattle.problem_rules.proofs.ValidLemmas.{valid_is_well_formed}
use Rattle.problem_rules.proofs.valid_is_well_formed.Goals as goal

pub returns : goal.returns
returns c = valid_is_well_formed
