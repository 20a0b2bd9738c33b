use Rattle.stability_laws.proofs.ValuedLemmas.{valued_is_valid}
use Rattle.stability_laws.proofs.valued_is_valid.Goals as goal

pub returns : goal.returns
returns c = valued_is_valid
