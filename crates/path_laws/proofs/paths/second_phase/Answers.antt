use Rattle.path_laws.proofs.PathLawLemmas as law
use Rattle.path_laws.proofs.paths.second_phase.Goals as goal

pub returns-clause-reaches : goal.returns-clause-reaches
returns-clause-reaches c = law.exchange_goes_on

pub returns-clause-costs : goal.returns-clause-costs
returns-clause-costs c = law.costs_are_not_negative

pub returns-clause-vectors : goal.returns-clause-vectors
returns-clause-vectors c = law.vectors_keep_rising

pub returns-clause-values : goal.returns-clause-values
returns-clause-values c = law.values_rise_by_pivots

pub returns-clause-rank : goal.returns-clause-rank
returns-clause-rank c = law.rank_rises_too
