use Rattle.std.proofs.Common.{◌≡◌, sym, ap, ◌∙◌, subst}
use Rattle.structure_list.specs.pns_rules.Shape.{Shape, shape_of}
use Rattle.structure_list.specs.pns_rules.Nodes as rules
use Rattle.structure_list.specs.pns_rules.Ends.{IsSound}
use Rattle.structure_list.proofs.pns_rules.Cited.{proper_if_valid}
use Rattle.structure_list.specs.pgraph.View.{node_of}
use Rattle.search_tree.specs.tree_rules.Ways.{child_at}
use Rattle.node_evaluation.specs.Choices.{way_of}
use Rattle.node_evaluation.specs.Children.{IsChild, IsKnown}
use Rattle.node_evaluation.proofs.ChoiceLemmas.{may_branch, decides}
use Rattle.node_evaluation.proofs.ChildLemmas.{sound_child}
use Rattle.node_evaluation.proofs.HandLemmas.{looked_then, options_then}
use Rattle.node_evaluation.proofs.KnownLemmas.{known_option}
use Rattle.node_evaluation.proofs.SolvedLemmas.{solved_by, solved_after}
use Rattle.node_evaluation.proofs.OptionLemmas.{choice_known}
use Rattle.node_evaluation.proofs.children.look_at_child.Goals as goal

pub child_of-start-requires : goal.child_of-start-requires
child_of-start-requires g c =
    subst (λ (s : Shape). IsKnown s c.args.choice) (sym c.graph-graph.ensures.same)
    (choice_known (shape_of c.args.site.now) (node_of c.args.node.now) c.args.choice
    c.graph-graph.ensures.proper c.graph-graph.ensures.few_units c.requires.choice)

pub look_or_wait-requires-clause-sound : goal.look_or_wait-requires-clause-sound
look_or_wait-requires-clause-sound g c =
    let p = c.args.site.now in
    let n = node_of c.args.node.now in
    let start : node_of c.child_of-start.result
    ≡ child_at (shape_of p) n (way_of c.args.choice) c.args.option
    = c.child_of-start.ensures
    ∙ ap (λ (s : Shape). child_at s n (way_of c.args.choice) c.args.option)
    c.graph-graph.ensures.same in
    subst (λ (m : rules.Node). IsSound (shape_of p) m) (sym start)
    (sound_child p c.problem.ensures.valid n (way_of c.args.choice) c.requires.sound
    c.requires.reduced (may_branch (shape_of p) n c.args.choice c.requires.choice)
    (decides (shape_of p) n c.args.choice c.requires.choice) c.args.option c.requires.option)

pub look_or_wait-requires-clause-option : goal.look_or_wait-requires-clause-option
look_or_wait-requires-clause-option g c =
    let p = c.args.site.now in
    let n = node_of c.args.node.now in
    known_option p n (way_of c.args.choice) c.args.option
    (proper_if_valid p c.problem.ensures.valid) c.requires.sound.apart
    (may_branch (shape_of p) n c.args.choice c.requires.choice) c.requires.option

pub network_at_hand-requires-clause-sound : goal.network_at_hand-requires-clause-sound
network_at_hand-requires-clause-sound g c = c.in_ok-looked.ensures.child.sound

pub returns-clause-looked : goal.returns-clause-looked
returns-clause-looked g c =
    let p = c.args.site.now in
    let n = node_of c.args.node.now in
    let start : node_of c.child_of-start.result
    ≡ child_at (shape_of p) n (way_of c.args.choice) c.args.option
    = c.child_of-start.ensures
    ∙ ap (λ (s : Shape). child_at s n (way_of c.args.choice) c.args.option)
    c.graph-graph.ensures.same in
    let child_is : IsChild g.E.Evaluator.past p
    (child_at (shape_of p) n (way_of c.args.choice) c.args.option) c.args.option
    c.is_some-stopped.result c.in_ok-looked.looked
    = subst
    (λ (m : rules.Node). IsChild g.E.Evaluator.past p m c.args.option c.is_some-stopped.result
    c.in_ok-looked.looked) start c.in_ok-looked.ensures.child in
    let e = c.in_ok-more.ensures in
    let b = c.with_best.ensures in
    looked_then p c.problem.ensures.valid n (way_of c.args.choice) c.requires.sound
    c.requires.reduced (may_branch (shape_of p) n c.args.choice c.requires.choice)
    (decides (shape_of p) n c.args.choice c.requires.choice) c.args.option c.requires.option
    g.E.Evaluator.past c.args.children c.in_ok-more.more c.with_best.result
    c.in_ok-looked.looked c.is_some-stopped.result
    c.requires.looked child_is c.is_some-stopped.ensures e.nodes e.ready e.which e.old e.found
    e.some e.stop c.in_ok-at_hand.at_hand c.in_ok-at_hand.ensures.at_hand b.same b.which b.old
    b.some

pub returns-clause-options : goal.returns-clause-options
returns-clause-options g c =
    let p = c.args.site.now in
    let n = node_of c.args.node.now in
    let start : node_of c.child_of-start.result
    ≡ child_at (shape_of p) n (way_of c.args.choice) c.args.option
    = c.child_of-start.ensures
    ∙ ap (λ (s : Shape). child_at s n (way_of c.args.choice) c.args.option)
    c.graph-graph.ensures.same in
    let child_is : IsChild g.E.Evaluator.past p
    (child_at (shape_of p) n (way_of c.args.choice) c.args.option) c.args.option
    c.is_some-stopped.result c.in_ok-looked.looked
    = subst
    (λ (m : rules.Node). IsChild g.E.Evaluator.past p m c.args.option c.is_some-stopped.result
    c.in_ok-looked.looked) start c.in_ok-looked.ensures.child in
    let e = c.in_ok-more.ensures in
    options_then p c.problem.ensures.valid n (way_of c.args.choice) c.requires.sound
    c.requires.reduced (may_branch (shape_of p) n c.args.choice c.requires.choice)
    (decides (shape_of p) n c.args.choice c.requires.choice) c.args.option c.requires.option
    g.E.Evaluator.past c.args.children c.in_ok-more.more c.with_best.result
    c.in_ok-looked.looked c.is_some-stopped.result
    c.requires.looked child_is c.is_some-stopped.ensures e.nodes e.ready e.which e.old e.found
    e.some e.stop c.in_ok-at_hand.at_hand c.in_ok-at_hand.ensures.at_hand
    c.with_best.ensures.same

pub returns-clause-solved : goal.returns-clause-solved
returns-clause-solved g c =
    let l = c.in_ok-looked.looked in
    let k = c.in_ok-looked.ensures.child in
    let e = c.in_ok-more.ensures in
    let same = c.with_best.ensures.same in
    solved_after c.args.site.now c.args.children c.with_best.result l c.args.all c.requires.solved
    (solved_by c.args.site.now l.cell l.network k.what k.end_is k.passes k.found k.bounded
    k.uncharged) (same.nodes ∙ e.nodes) (same.networks ∙ e.networks)
