use Rattle.search_tree.proofs.LeanLemmas.{kept_is_spent}
use Rattle.search_tree.proofs.trees.kept_is_spent.Goals as goal

pub returns : goal.returns
returns c =
    λ p start claim undercut last cells order at place count budget w kept preorder stands can
    least of_use pending count_is over.
    kept_is_spent p start claim undercut last cells order kept preorder at place count
    budget
    w
    stands can least of_use pending count_is over
