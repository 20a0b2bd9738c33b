use Rattle.std.proofs.Common.{◌+◌, ◌≤◌, length, refl, sym, subst, arith}
use Rattle.rank_check.specs.pns_rules.Shape.{shape_of}
use Rattle.rank_check.specs.pns_rules.Ends.{IsSound, IsReduced}
use Rattle.rank_check.specs.pgraph.View.{node_of}
use Rattle.rank_check.specs.unit_sets.declared.node.Node.{Node}
use Rattle.abb_search.specs.node_evaluation.declared.choice.Choice.{Choice}
use Rattle.abb_search.specs.node_evaluation.Choices.{IsChoice, way_of, option_count}
use Rattle.abb_search.specs.search_tree.Cells.{cell_at}
use Rattle.abb_search.proofs.node_evaluation.Cited.{option_count_is}
use Rattle.abb_search.specs.Growing.{IsBranching}
use Rattle.abb_search.proofs.Cited.{there, hand, chosen, sound_there}
use Rattle.rank_search.specs.Listed.{AreAdded}
use Rattle.rank_search.proofs.TurnLemmas.{growing_of}
use Rattle.rank_search.proofs.GrowLemmas.{same_count, numbers_fit, grown}
use Rattle.rank_search.proofs.turns.branch_next.Goals as goal

pub choice_at-choice-requires : goal.choice_at-choice-requires
choice_at-choice-requires g c =
    let p = c.args.site.now in
    let s = c.args.growing.now in
    let gr =
    growing_of g.E.Evaluator.past p s.budget s c.args.found.now c.requires.ranking
    c.requires.goes_on in
    there p c.problem.ensures.valid s gr c.args.leaf c.requires.next.is_open
    c.is_pool.ensures.payloads c.is_pool.ensures.leaves

pub node_at-node-requires : goal.node_at-node-requires
node_at-node-requires g c =
    let p = c.args.site.now in
    let s = c.args.growing.now in
    let gr =
    growing_of g.E.Evaluator.past p s.budget s c.args.found.now c.requires.ranking
    c.requires.goes_on in
    there p c.problem.ensures.valid s gr c.args.leaf c.requires.next.is_open
    c.is_pool.ensures.payloads c.is_pool.ensures.leaves

pub branch_leaf-requires-clause-sound : goal.branch_leaf-requires-clause-sound
branch_leaf-requires-clause-sound g c =
    let p = c.args.site.now in
    let s = c.args.growing.now in
    let gr =
    growing_of g.E.Evaluator.past p s.budget s c.args.found.now c.requires.ranking
    c.requires.goes_on in
    subst (λ (k : Node). IsSound (shape_of p) (node_of k)) (sym c.node_at-node.ensures)
    (sound_there p c.problem.ensures.valid s gr c.args.leaf c.requires.next.is_open
    c.is_pool.ensures.payloads c.is_pool.ensures.leaves)

pub branch_leaf-requires-clause-reduced : goal.branch_leaf-requires-clause-reduced
branch_leaf-requires-clause-reduced g c =
    let p = c.args.site.now in
    let s = c.args.growing.now in
    let gr =
    growing_of g.E.Evaluator.past p s.budget s c.args.found.now c.requires.ranking
    c.requires.goes_on in
    let hd =
    hand p c.problem.ensures.valid s gr c.args.leaf c.requires.next.is_open
    c.is_pool.ensures.payloads c.is_pool.ensures.leaves in
    subst (λ (k : Node). IsReduced (shape_of p) (node_of k)) (sym c.node_at-node.ensures)
    hd.known.reduced

pub branch_leaf-requires-clause-choice : goal.branch_leaf-requires-clause-choice
branch_leaf-requires-clause-choice g c =
    let p = c.args.site.now in
    let s = c.args.growing.now in
    let gr =
    growing_of g.E.Evaluator.past p s.budget s c.args.found.now c.requires.ranking
    c.requires.goes_on in
    subst (λ (k : Node). IsChoice (shape_of p) (node_of k) c.choice_at-choice.result)
    (sym c.node_at-node.ensures)
    (chosen p c.problem.ensures.valid s gr c.args.leaf c.requires.next.is_open
    c.is_pool.ensures.payloads c.is_pool.ensures.leaves c.choice_at-choice.result
    c.choice_at-choice.ensures)

pub branch_leaf-requires-clause-few : goal.branch_leaf-requires-clause-few
branch_leaf-requires-clause-few g c =
    let p = c.args.site.now in
    let s = c.args.growing.now in
    let gr =
    growing_of g.E.Evaluator.past p s.budget s c.args.found.now c.requires.ranking
    c.requires.goes_on in
    let m = c.choice_at-choice.result in
    let choice : IsChoice (shape_of p) (node_of c.node_at-node.result) m
    = subst (λ (k : Node). IsChoice (shape_of p) (node_of k) m) (sym c.node_at-node.ensures)
    (chosen p c.problem.ensures.valid s gr c.args.leaf c.requires.next.is_open
    c.is_pool.ensures.payloads c.is_pool.ensures.leaves m c.choice_at-choice.ensures) in
    let few =
    subst (λ (x : Choice). length s.pool.payloads + option_count x ≤ s.budget)
    (sym c.choice_at-choice.ensures) c.requires.fits.within in
    let options = option_count_is (shape_of p) (node_of c.node_at-node.result) m choice in
    let most = c.requires.fits.numbered in
    omega (arith, few, options, most)

pub add_all-requires : goal.add_all-requires
add_all-requires g c =
    let p = c.args.site.now in
    let s = c.args.growing.now in
    let gr =
    growing_of g.E.Evaluator.past p s.budget s c.args.found.now c.requires.ranking
    c.requires.goes_on in
    numbers_fit g.E.Evaluator.past p (node_of c.node_at-node.result) s c.branch_leaf.new.growing
    c.args.leaf s.nodes (way_of c.choice_at-choice.result) c.in_ok-networks.ensures.branching
    c.in_ok-networks.networks.items
    (c.in_ok-networks.ensures.solved refl) gr.tree.counted

pub returns-clause-more : goal.returns-clause-more
returns-clause-more g c =
    let p = c.args.site.now in
    let s = c.args.growing.now in
    let l = c.args.found.now in
    let new = c.branch_leaf.new.growing in
    let gr = growing_of g.E.Evaluator.past p s.budget s l c.requires.ranking c.requires.goes_on in
    let m = c.choice_at-choice.result in
    let at = c.args.leaf in
    let choice =
    chosen p c.problem.ensures.valid s gr at c.requires.next.is_open c.is_pool.ensures.payloads
    c.is_pool.ensures.leaves m c.choice_at-choice.ensures in
    let few =
    subst (λ (x : Choice). length s.pool.payloads + option_count x ≤ s.budget)
    (sym c.choice_at-choice.ensures) c.requires.fits.within in
    let b : IsBranching g.E.Evaluator.past p (node_of (cell_at s.pool.payloads at).node) s
    new at (way_of m)
    = subst (λ (k : Node). IsBranching g.E.Evaluator.past p (node_of k) s new at (way_of m))
    c.node_at-node.ensures c.in_ok-networks.ensures.branching in
    let added : AreAdded l c.add_all.new.self (length s.pool.payloads)
    c.in_ok-networks.networks.items =
    subst (λ n. AreAdded l c.add_all.new.self n c.in_ok-networks.networks.items) gr.tree.counted
    c.in_ok-add_all.ensures.added in
    grown g.E.Evaluator.past p c.problem.ensures.valid s.budget s l c.is_listed.ensures
    c.requires.ranking gr at c.requires.next.is_open c.is_pool.ensures.payloads
    c.is_pool.ensures.leaves c.requires.next.settled
    c.requires.next.least c.requires.next.undercuts new m choice few b
    c.in_ok-networks.networks.items (c.in_ok-networks.ensures.solved refl) c.add_all.new.self
    added

pub returns-clause-count : goal.returns-clause-count
returns-clause-count g c =
    same_count c.args.found.now c.add_all.new.self c.args.growing.now.nodes
    c.in_ok-networks.networks.items c.in_ok-add_all.ensures.added
