use Rattle.std.specs.Prelude.{IfSome}
use Rattle.std.proofs.Common.{Option, Some, sym, ◌∙◌, subst, refl, arith}
use Rattle.rank_check.specs.tree_rules.Tree.{leaf}
use Rattle.rank_check.specs.tree_rules.Leaf.{bounded}
use Rattle.abb_search.specs.Shutting.{IsShutAt}
use Rattle.rank_search.specs.declared.closing.Closed.{Closed}
use Rattle.rank_search.specs.DistinctTurns.{IsClosed}
use Rattle.abb_search.proofs.Cited.{first_has, there}
use Rattle.rank_search.proofs.DistinctTurnLemmas.{growing_of, closed_on}
use Rattle.rank_search.proofs.closing.close_least.Goals as goal

pub closed_inside-requires-clause-growing : goal.closed_inside-requires-clause-growing
closed_inside-requires-clause-growing g c =
    growing_of g.E.Evaluator.past c.args.site.now c.args.growing.now.budget c.args.growing.now
    c.args.listing.now c.requires.searching c.requires.goes_on

pub closed_inside-requires-clause-leaf : goal.closed_inside-requires-clause-leaf
closed_inside-requires-clause-leaf g c = sym c.least.ensures ∙ c.in-Some.is

pub shut_leaf-requires : goal.shut_leaf-requires
shut_leaf-requires g c =
    first_has c.args.growing.now.pool.leaves c.in-Some.leaf (sym c.least.ensures ∙ c.in-Some.is)

pub index_mut-requires : goal.index_mut-requires
index_mut-requires g c =
    let s = c.args.growing.now in
    let l = c.args.listing.now in
    let gr =
    growing_of g.E.Evaluator.past c.args.site.now s.budget s l c.requires.searching
    c.requires.goes_on in
    let lt =
    there c.args.site.now c.problem.ensures.valid s gr c.in-Some.leaf
    (first_has s.pool.leaves c.in-Some.leaf (sym c.least.ensures ∙ c.in-Some.is))
    c.is_pool.ensures.payloads c.is_pool.ensures.leaves in
    let as_many = c.requires.searching.of_tree.listing.as_many in
    let long = l.reached.ok.0 in
    omega (arith, lt, as_many, long)

pub returns-in-Some-found-clause-closed : goal.returns-in-Some-found-clause-closed
returns-in-Some-found-clause-closed g c = λ done.
    let p = c.args.site.now in
    let s = c.args.growing.now in
    let new = c.shut_leaf.new.growing in
    let l = c.args.listing.now in
    let at = c.in-Some.leaf in
    let m = c.in-Some-found.closed in
    let gr =
    growing_of g.E.Evaluator.past p s.budget s l c.requires.searching c.requires.goes_on in
    let is_leaf = first_has s.pool.leaves at (sym c.least.ensures ∙ c.in-Some.is) in
    let closed : IsClosed c.args.site.now c.args.growing.now c.args.listing.now.plants
    c.in-Some.leaf c.in-Some-found.closed
    = subst
    (λ (o : Option Closed). IfSome o (IsClosed c.args.site.now c.args.growing.now
    c.args.listing.now.plants c.in-Some.leaf)) c.in-Some-found.is c.in_ok-found.ensures.closed in
    let shut : IsShutAt s new at (leaf (bounded m.scaled.d m.scaled.ys)) =
    record {
      frees = c.shut_leaf.ensures.frees;
      cells = c.shut_leaf.ensures.cells;
      values = c.shut_leaf.ensures.values;
      leaves = c.shut_leaf.ensures.leaves;
      rest = c.shut_leaf.ensures.rest;
    } in
    closed_on g.E.Evaluator.past p s.budget s new l _ at m c.requires.searching c.requires.goes_on
    (there p c.problem.ensures.valid s gr at is_leaf c.is_pool.ensures.payloads
    c.is_pool.ensures.leaves) is_leaf closed shut refl refl refl
