use Rattle.std.proofs.Common.{ℕ, List, [], ◌∷◌, Option, refl, sym, subst}
use Rattle.node_evaluation.specs.unit_sets.declared.node.Node as starts
use Rattle.node_evaluation.specs.pgraph.View.{node_of}
use Rattle.node_evaluation.specs.tree_rules.Claim as claims
use Rattle.node_evaluation.specs.search_tree.Cells.{Cell}
use Rattle.node_evaluation.specs.Looks.{IsLooked}
use Rattle.node_evaluation.specs.Children.{AreSolvedBy}
use Rattle.node_evaluation.proofs.Cited.{solved_by}
use Rattle.abb_search.proofs.HandLemmas.{solved_one}
use Rattle.abb_search.proofs.RootLemmas.{best_is_found}
use Rattle.abb_search.proofs.root.look_at_root.Goals as goal

pub returns-clause-root : goal.returns-clause-root
returns-clause-root g c =
    let l = c.in_ok-looked.looked in
    record {
      looked = l;
      is_looked =
          subst (λ (n : starts.Node). IsLooked g.E.Evaluator.past c.args.site.now (node_of n) [] l)
          c.copy_of-node.ensures
          (subst
          (λ (o : List ℕ). IsLooked g.E.Evaluator.past c.args.site.now
          (node_of c.copy_of-node.result) o l) c.empty.ensures c.in_ok-looked.ensures.looked);
      start_is = refl;
      budget_is = refl;
      nodes_are = refl;
      root = c.place-root.result;
      empty = c.reserve.new.self;
      placed = c.place-root.ensures.placed;
      cells_are = c.in_ok-pool.ensures.cells;
      values_are = c.in_ok-pool.ensures.values;
      which = c.cheaper.ensures.which;
      fallen = c.cheaper.ensures.old;
      fallen_found = c.cheaper.ensures.found;
      some_best = c.cheaper.ensures.some;
      stop_is = c.root_stop.ensures;
      leaves_are = c.in_ok-pool.ensures.open;
    }

pub returns-clause-solved : goal.returns-clause-solved
returns-clause-solved g c = λ none.
    let p = c.args.site.now in
    let l = c.in_ok-looked.looked in
    let seen = c.in_ok-looked.ensures.looked.seen in
    let root =
    solved_one p (record { cell = l.cell; value = l.value }) c.place-root.result l.ready
    c.reserve.new.self c.place-root.new.hand l.network c.place-root.ensures.placed
    (solved_by p l.cell l.network seen.what seen.end_is seen.passes seen.found seen.bounded
    seen.uncharged) in
    let best =
    best_is_found c.args.best c.cheaper.result l.network none c.cheaper.ensures.which
    c.cheaper.ensures.some in
    subst (λ (cs : List Cell). AreSolvedBy p cs (c.cheaper.result ∷ []))
    (sym c.in_ok-pool.ensures.cells)
    (subst (λ (w : Option claims.Network). AreSolvedBy p (c.place-root.result.cell ∷ []) (w ∷ []))
    (sym best) (root, tt))
