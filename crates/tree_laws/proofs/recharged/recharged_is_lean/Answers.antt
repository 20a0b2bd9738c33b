use Rattle.tree_laws.proofs.LeanLemmas.{lean_there}
use Rattle.tree_laws.proofs.recharged.recharged_is_lean.Goals as goal

pub returns : goal.returns
returns c = lean_there
