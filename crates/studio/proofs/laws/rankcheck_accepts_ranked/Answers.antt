use Rattle.studio.proofs.Calls.{rankcheck_accepts_ranked}
use Rattle.studio.proofs.laws.rankcheck_accepts_ranked.Goals as goal

pub returns : goal.returns
returns c = rankcheck_accepts_ranked c.ranked_is_accepted.ensures
