use Rattle.rank_laws.proofs.RankedLemmas.{listed_are_least}
use Rattle.rank_laws.proofs.ranked.listed_are_least.Goals as goal

pub returns : goal.returns
returns c = listed_are_least
