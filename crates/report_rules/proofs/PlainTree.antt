-- A ranked tree of three nodes as an ordinary one: its leaf that names the network 1 is open, with
-- the bound that it has there, and the others stay as they are.
use Rattle.std.proofs.Common.{◌≡◌, pos, [], ◌∷◌, Some, refl}
use Rattle.rank_rules.specs.tree_rules.Ways.{either}
use Rattle.rank_rules.specs.tree_rules.Tree.{branch, leaf}
use Rattle.rank_rules.specs.tree_rules.Leaf as leaves
use Rattle.rank_rules.specs.tree_rules.Claim.{unknown}
use Rattle.rank_rules.specs.declared.naming.Naming.TheVariants.{Only}
use Rattle.rank_rules.specs.Leaf.{plain, named}
use Rattle.report_rules.specs.RankLow.{plain_tree, best_claim}

its_tree : plain_tree (
    record { option = []; steps = []; end = branch (either 0) }
    ∷ record { option = 0 ∷ []; steps = []; end = leaf (named Only 1 (pos 2) (pos 7 ∷ [])) }
    ∷ record { option = []; steps = []; end = leaf (plain (leaves.refuted (pos 3 ∷ []))) } ∷ [])
    ≡ record { option = []; steps = []; end = branch (either 0) }
    ∷ record {
      option = 0 ∷ [];
      steps = [];
      end = leaf (leaves.untried (Some (record { d = pos 2; ys = pos 7 ∷ [] })));
    }
    ∷ record { option = []; steps = []; end = leaf (leaves.refuted (pos 3 ∷ [])) } ∷ []
its_tree = refl

no_network : best_claim [] ≡ unknown
no_network = refl
