use Rattle.studio.proofs.RankAccepted.{ranked_is_accepted}
use Rattle.studio.proofs.laws.ranked_is_accepted.Goals as goal

pub returns : goal.returns
returns c =
    ranked_is_accepted c.network_has_one_fault.ensures.passes c.ranking_has_one_fault.ensures.passes
