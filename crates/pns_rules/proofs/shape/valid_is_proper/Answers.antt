use Rattle.pns_rules.proofs.ProperLemmas.{proper_if_valid}
use Rattle.pns_rules.proofs.shape.valid_is_proper.Goals as goal

pub returns : goal.returns
returns c = proper_if_valid
