use Rattle.path_laws.proofs.PathLawLemmas as law
use Rattle.path_laws.proofs.paths.first_phase.Goals as goal

pub returns-clause-start : goal.returns-clause-start
returns-clause-start c = law.start_is_first_phase

pub returns-clause-skips : goal.returns-clause-skips
returns-clause-skips c = law.first_phase_skips

pub returns-clause-pivots : goal.returns-clause-pivots
returns-clause-pivots c = law.first_phase_pivots

pub returns-clause-goes_on : goal.returns-clause-goes_on
returns-clause-goes_on c = law.first_phase_goes_on

pub returns-clause-ends : goal.returns-clause-ends
returns-clause-ends c = law.first_phase_ends
