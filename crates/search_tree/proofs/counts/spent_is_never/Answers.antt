use Rattle.std.specs.Prelude.{true}
use Rattle.tree_laws.proofs.pns_rules.Cited.{proper_if_valid}
use Rattle.search_tree.proofs.SpentLemmas.{never_spent}
use Rattle.search_tree.proofs.counts.spent_is_never.Goals as goal

pub returns : goal.returns
returns c =
    λ p valid start claim tree a lean root e s sound all union k n low h r w may d. never_spent p
    (proper_if_valid p valid) true start claim all union tree a lean root e s sound k n low h r w
    may d
