use Rattle.std.proofs.Common.{◌+◌, ◌≤◌, length, sym, subst, arith}
use Rattle.node_evaluation.specs.pns_rules.Shape.{shape_of}
use Rattle.node_evaluation.specs.pns_rules.Ends.{IsSound, IsReduced}
use Rattle.node_evaluation.specs.pgraph.View.{node_of}
use Rattle.node_evaluation.specs.unit_sets.declared.node.Node.{Node}
use Rattle.node_evaluation.specs.declared.choice.Choice.{Choice}
use Rattle.node_evaluation.specs.Choices.{IsChoice, way_of, option_count}
use Rattle.node_evaluation.specs.search_tree.Cells.{cell_at}
use Rattle.node_evaluation.proofs.Cited.{option_count_is}
use Rattle.abb_search.specs.Growing.{IsBranching}
use Rattle.abb_search.proofs.SameLemmas.{same_room, err_same}
use Rattle.abb_search.proofs.StepLemmas.{more_after}
use Rattle.abb_search.proofs.TurnLemmas.{there, hand, chosen, sound_there, branched_step}
use Rattle.abb_search.proofs.step.branch_next.Goals as goal

pub choice_at-choice-requires : goal.choice_at-choice-requires
choice_at-choice-requires g c =
    there c.args.site.now c.problem.ensures.valid c.args.growing.now c.requires.growing c.args.leaf
    c.requires.next.is_open c.is_pool.ensures.payloads c.is_pool.ensures.leaves

pub node_at-node-requires : goal.node_at-node-requires
node_at-node-requires g c =
    there c.args.site.now c.problem.ensures.valid c.args.growing.now c.requires.growing c.args.leaf
    c.requires.next.is_open c.is_pool.ensures.payloads c.is_pool.ensures.leaves

pub branch_leaf-requires-clause-sound : goal.branch_leaf-requires-clause-sound
branch_leaf-requires-clause-sound g c =
    subst (λ (k : Node). IsSound (shape_of c.args.site.now) (node_of k))
    (sym c.node_at-node.ensures)
    (sound_there c.args.site.now c.problem.ensures.valid c.args.growing.now c.requires.growing
    c.args.leaf c.requires.next.is_open c.is_pool.ensures.payloads c.is_pool.ensures.leaves)

pub branch_leaf-requires-clause-reduced : goal.branch_leaf-requires-clause-reduced
branch_leaf-requires-clause-reduced g c =
    let hd =
    hand c.args.site.now c.problem.ensures.valid c.args.growing.now c.requires.growing
    c.args.leaf c.requires.next.is_open c.is_pool.ensures.payloads c.is_pool.ensures.leaves in
    subst (λ (k : Node). IsReduced (shape_of c.args.site.now) (node_of k))
    (sym c.node_at-node.ensures) hd.known.reduced

pub branch_leaf-requires-clause-choice : goal.branch_leaf-requires-clause-choice
branch_leaf-requires-clause-choice g c =
    subst (λ (k : Node). IsChoice (shape_of c.args.site.now) (node_of k) c.choice_at-choice.result)
    (sym c.node_at-node.ensures)
    (chosen c.args.site.now c.problem.ensures.valid c.args.growing.now c.requires.growing
    c.args.leaf c.requires.next.is_open c.is_pool.ensures.payloads c.is_pool.ensures.leaves
    c.choice_at-choice.result c.choice_at-choice.ensures)

pub branch_leaf-requires-clause-few : goal.branch_leaf-requires-clause-few
branch_leaf-requires-clause-few g c =
    let p = c.args.site.now in
    let s = c.args.growing.now in
    let m = c.choice_at-choice.result in
    let choice : IsChoice (shape_of p) (node_of c.node_at-node.result) m
    = subst (λ (k : Node). IsChoice (shape_of p) (node_of k) m) (sym c.node_at-node.ensures)
    (chosen p c.problem.ensures.valid s c.requires.growing c.args.leaf c.requires.next.is_open
    c.is_pool.ensures.payloads c.is_pool.ensures.leaves m c.choice_at-choice.ensures) in
    let few =
    subst (λ (x : Choice). length s.pool.payloads + option_count x ≤ s.budget)
    (sym c.choice_at-choice.ensures) c.requires.fits.within in
    let options = option_count_is (shape_of p) (node_of c.node_at-node.result) m choice in
    let most = c.requires.fits.numbered in
    omega (arith, few, options, most)

pub returns-clause-more : goal.returns-clause-more
returns-clause-more g c =
    let p = c.args.site.now in
    let s = c.args.growing.now in
    let new = c.branch_leaf.new.growing in
    let n = (cell_at s.pool.payloads c.args.leaf).node in
    let m = c.choice_at-choice.result in
    let next = c.requires.next in
    let choice =
    chosen p c.problem.ensures.valid s c.requires.growing c.args.leaf next.is_open
    c.is_pool.ensures.payloads c.is_pool.ensures.leaves m c.choice_at-choice.ensures in
    let few =
    subst (λ (x : Choice). length s.pool.payloads + option_count x ≤ s.budget)
    (sym c.choice_at-choice.ensures) c.requires.fits.within in
    let hd =
    hand p c.problem.ensures.valid s c.requires.growing c.args.leaf next.is_open
    c.is_pool.ensures.payloads c.is_pool.ensures.leaves in
    let b : IsBranching g.E.Evaluator.past p (node_of n) s new c.args.leaf (way_of m)
    = subst
    (λ (k : Node). IsBranching g.E.Evaluator.past p (node_of k) s new c.args.leaf (way_of m))
    c.node_at-node.ensures c.in_ok-branch_leaf.ensures.branching in
    let a =
    branched_step p c.problem.ensures.valid s c.requires.growing c.args.leaf next.is_open
    c.is_pool.ensures.payloads c.is_pool.ensures.leaves hd next.settled next.least
    next.undercuts new m choice few b in
    more_after g.E.Evaluator.past p s new a.0 a.1 b.fallen b.start b.budget

pub returns-in_err-branch_leaf-clause-same : goal.returns-in_err-branch_leaf-clause-same
returns-in_err-branch_leaf-clause-same g c =
    err_same g.E.Evaluator.past c.args.site.now c.args.growing.now c.branch_leaf.new.growing
    c.from_residual.result
    (same_room g.E.Evaluator.past c.args.site.now c.args.growing.now c.branch_leaf.new.growing
    c.in_err-branch_leaf.ensures.same)
