use Rattle.tree_laws.proofs.pns_rules.Cited.{proper_if_valid}
use Rattle.search_tree.proofs.SpentLemmas.{lean_is_few}
use Rattle.search_tree.proofs.counts.lean_is_few.Goals as goal

pub returns : goal.returns
returns c =
    λ partial p valid start claim tree a lean root e s sound all union. lean_is_few p
    (proper_if_valid p valid) partial start claim all union tree a lean root e s sound
