use Rattle.path_laws.proofs.RangeProgramLemmas.{program_fits}
use Rattle.path_laws.proofs.SmallLemmas as small
use Rattle.path_laws.proofs.ranges.first_kind_fits.Goals as goal

pub returns-clause-linear : goal.returns-clause-linear
returns-clause-linear c = small.first_kind_fits

pub returns-clause-program : goal.returns-clause-program
returns-clause-program c = program_fits
