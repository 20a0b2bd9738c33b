use Rattle.rank_laws.proofs.AlternativeLemmas.{alternatives_are_right}
use Rattle.rank_laws.proofs.ranked.alternatives_are_right.Goals as goal

pub returns : goal.returns
returns c = alternatives_are_right
