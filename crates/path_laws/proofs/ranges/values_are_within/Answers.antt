use Rattle.path_laws.proofs.WithinLemmas as law
use Rattle.path_laws.proofs.ranges.values_are_within.Goals as goal

pub returns : goal.returns
returns c = law.values_are_within
