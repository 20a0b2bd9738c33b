-- An open leaf of the pool is shut: it gets another end.
use Rattle.std.specs.Prelude.{◌≡◌, ℕ, ◌<◌, true, false, length, slice_set, None, is_some}
use Rattle.node_evaluation.specs.link_lists.Lists.{has, without}
use Rattle.slab.specs.Slab.{Updates}
use Rattle.pns_io.specs.problem_rules.Problem.{Problem}
use Rattle.node_evaluation.specs.tree_rules.Tree.{End, leaf}
use Rattle.node_evaluation.specs.tree_rules.Leaf.{Leaf, LeafPasses}
use Rattle.node_evaluation.specs.tree_rules.Known.{KnowsEnd}
use Rattle.node_evaluation.specs.tree_rules.Claim.{claimed_cost}
use Rattle.node_evaluation.specs.search_tree.Cells.{place_of, cell_at}
use Rattle.node_evaluation.specs.search_tree.Growth.{as_shut, is_open_leaf}
use Rattle.node_evaluation.specs.Looks.{is_bounded_leaf}
use Rattle.node_evaluation.specs.Children.{claim_with}
use Rattle.abb_search.specs.declared.growing.Growing.{Growing}

-- nothing else of the search is changed
pub record IsSameButLeaves (old new : Growing) : Type 0 where
  pub start : new.start ≡ old.start
  pub budget : new.budget ≡ old.budget
  pub nodes : new.nodes ≡ old.nodes
  pub best : new.best ≡ old.best
  pub stop : new.stop ≡ old.stop

-- leaf `at` has this end, is no leaf of the pool, and nothing is stored for it
pub record IsShutAt (old new : Growing) (at : ℕ) (e : End Leaf) : Type 0 where
  pub frees : Updates old.ready new.ready (cell_at old.pool.payloads at).key None
  pub cells : new.pool.payloads
      ≡ slice_set old.pool.payloads at (as_shut (cell_at old.pool.payloads at) e)
  pub values : new.pool.values ≡ old.pool.values
  pub leaves : new.pool.leaves ≡ without at old.pool.leaves
  pub rest : IsSameButLeaves old new

-- open leaf `at` may end with this leaf, which is not open, and passes if the best network is
-- claimed
pub record IsShutting (p : Problem) (s : Growing) (at : ℕ) (what : Leaf) : Type 0 where
  pub there : at < length s.pool.payloads
  pub is_leaf : has s.pool.leaves at ≡ true
  pub shut : is_open_leaf what ≡ false
  pub passes : LeafPasses true p (claimed_cost (claim_with s.best))
      (place_of (cell_at s.pool.payloads at)) what
  pub known : KnowsEnd p (leaf what)
  pub some : is_bounded_leaf what ≡ true → is_some s.best ≡ true
