use Rattle.studio.proofs.RankAccepted.{alternatives_are_accepted}
use Rattle.studio.proofs.laws.alternatives_are_accepted.Goals as goal

pub returns : goal.returns
returns c =
    alternatives_are_accepted c.network_has_one_fault.ensures.passes
    c.ranking_has_one_fault.ensures.passes
