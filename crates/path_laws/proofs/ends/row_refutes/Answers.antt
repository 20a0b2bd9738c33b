use Rattle.path_laws.proofs.EndLemmas as law
use Rattle.path_laws.proofs.ends.row_refutes.Goals as goal

pub returns : goal.returns
returns c = law.row_refutes
