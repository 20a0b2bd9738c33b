use Rattle.rank_laws.proofs.RankedLemmas.{others_cost_enough, others_have_none}
use Rattle.rank_laws.proofs.ranked.others_are_no_better.Goals as goal

pub returns-clause-full : goal.returns-clause-full
returns-clause-full c = others_cost_enough

pub returns-clause-fewer : goal.returns-clause-fewer
returns-clause-fewer c = others_have_none
