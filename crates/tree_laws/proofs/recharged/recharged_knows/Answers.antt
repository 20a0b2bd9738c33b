use Rattle.tree_laws.proofs.KnownLemmas.{tree_too}
use Rattle.tree_laws.proofs.recharged.recharged_knows.Goals as goal

pub returns : goal.returns
returns c = tree_too
