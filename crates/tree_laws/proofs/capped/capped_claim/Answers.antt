use Rattle.tree_laws.proofs.KnownLemmas.{claim_too}
use Rattle.tree_laws.proofs.capped.capped_claim.Goals as goal

pub returns : goal.returns
returns c = claim_too
