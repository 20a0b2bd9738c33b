use Rattle.studio.proofs.Calls.{rankcheck_accepts_alternatives}
use Rattle.studio.proofs.laws.rankcheck_accepts_alternatives.Goals as goal

pub returns : goal.returns
returns c = rankcheck_accepts_alternatives c.alternatives_are_accepted.ensures
