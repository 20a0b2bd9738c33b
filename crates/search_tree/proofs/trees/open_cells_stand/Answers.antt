use Rattle.search_tree.proofs.LeanLemmas.{open_stands}
use Rattle.search_tree.proofs.trees.open_cells_stand.Goals as goal

pub returns : goal.returns
returns c =
    λ p start claim undercut last cells order at place kept preorder stands end. open_stands p start
    claim undercut last cells order kept preorder at place stands end
