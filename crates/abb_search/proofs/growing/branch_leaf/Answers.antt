use Rattle.std.proofs.Common.{◌≡◌, ◌⊎◌, ◌||◌, ◌+◌, ◌<◌, refl, ap, ◌∙◌, subst, arith, length}
use Rattle.std.proofs.Common.{reverse, slice_set, ◌++◌, rules, List, Option, None}
use Rattle.node_evaluation.specs.pgraph.View.{node_of}
use Rattle.std.specs.Prelude.{is_some}
use Rattle.node_evaluation.specs.tree_rules.Claim as claims
use Rattle.node_evaluation.specs.tree_rules.Costs.{HasFallen}
use Rattle.node_evaluation.specs.Looks.{cost_of}
use Rattle.abb_search.specs.declared.growing.Growing.{Growing}
use Rattle.std.proofs.lemmas.List.{length-reverse}
use Rattle.slab.specs.Slab.{Slab, Updates}
use Rattle.node_evaluation.specs.tree_rules.Tree.{End, branch}
use Rattle.node_evaluation.specs.tree_rules.Leaf.{Leaf}
use Rattle.node_evaluation.specs.branch_tree.View.{end_of}
use Rattle.node_evaluation.specs.search_tree.Growth.{as_parent, cells_in_turn}
use Rattle.node_evaluation.specs.search_tree.Cells.{Cell, cell_at}
use Rattle.node_evaluation.specs.declared.looks.Ready.{Ready}
use Rattle.abb_search.proofs.HandLemmas.{as_many_children, freed_from}
use Rattle.abb_search.proofs.GrowingLemmas.{count_seen, stops_within, room_within, branching}
use Rattle.abb_search.proofs.GrowingLemmas.{solved_behind}
use Rattle.node_evaluation.proofs.Cited.{option_count_is, width_is}
use Rattle.node_evaluation.specs.Choices.{way_of}
use Rattle.node_evaluation.specs.tree_rules.Ways.{width}
use Rattle.node_evaluation.specs.pns_rules.Shape.{shape_of}
use Rattle.abb_search.proofs.growing.branch_leaf.Goals as goal

pub overflow_cast-count : goal.overflow_cast-count
overflow_cast-count g c =
    let k =
    count_seen g.E.Evaluator.past c.args.site.now (node_of c.args.node) (way_of c.args.choice)
    c.in_ok-children.children c.in_ok-children.ensures.seen in
    let l : c.len-count.result ≡ length c.in_ok-children.children.nodes.items = search rules in
    let few = c.requires.few in
    omega (arith, k, l, few)

pub reserve-requires : goal.reserve-requires
reserve-requires g c =
    let k =
    count_seen g.E.Evaluator.past c.args.site.now (node_of c.args.node) (way_of c.args.choice)
    c.in_ok-children.children c.in_ok-children.ensures.seen in
    let l : c.len-count.result ≡ length c.in_ok-children.children.nodes.items = search rules in
    let few = c.requires.few in
    let n = c.is_pool.ensures.payloads in
    omega (arith, k, l, few, n)

pub stop_at-requires : goal.stop_at-requires
stop_at-requires g c =
    let k =
    count_seen g.E.Evaluator.past c.args.site.now (node_of c.args.node) (way_of c.args.choice)
    c.in_ok-children.children c.in_ok-children.ensures.seen in
    let few = c.requires.few in
    let n = c.requires.counted in
    stops_within g.E.Evaluator.past c.args.site.now c.in_ok-children.children.nodes.items
    c.in_ok-children.children.ready.items c.args.growing.now.nodes 4294967296
    c.in_ok-children.children.stop c.in_ok-children.ensures.seen.stop_holds
    (omega (arith, k, few, n))

pub branch-growing-requires-clause-room : goal.branch-growing-requires-clause-room
branch-growing-requires-clause-room g c =
    let m =
    as_many_children c.in_ok-children.children.nodes.items
    (reverse c.place_all-nodes.result.items) c.in_ok-children.children.ready.items
    c.try_remove.new.self c.place_all-nodes.new.hand c.place_all-nodes.ensures in
    let r = length-reverse c.place_all-nodes.result.items in
    let l : c.len-count.result ≡ length c.in_ok-children.children.nodes.items = search rules in
    room_within c.reserve.new.self.spare c.args.growing.now.pool.spare c.len-count.result
    (length c.place_all-nodes.result.items) c.in_ok-reserve.ensures.spare
    (omega (arith, m, r, l))

pub returns-clause-branching : goal.returns-clause-branching
returns-clause-branching g c =
    let l : c.len-count.result ≡ length c.in_ok-children.children.nodes.items = search rules in
    let new : Growing =
    record {
      start = c.args.growing.now.start;
      budget = c.args.growing.now.budget;
      nodes =
          c.args.growing.now.nodes + c.len-count.result;
      pool = c.branch-growing.new.pool;
      ready =
          c.place_all-nodes.new.hand;
      best = c.cheaper.result;
      stop = c.stop_at.result;
    } in
    let b = c.in_ok-children.children.best in
    let which =
    subst (λ (w : Option claims.Network). (c.cheaper.result ≡ w) ⊎ (c.cheaper.result ≡ b))
    c.take.ensures.value c.cheaper.ensures.which in
    let fallen =
    subst (λ (w : Option claims.Network). HasFallen (cost_of w) (cost_of c.cheaper.result))
    c.take.ensures.value c.cheaper.ensures.old in
    let some =
    subst (λ (w : Option claims.Network). is_some c.cheaper.result ≡ (is_some w || is_some b))
    c.take.ensures.value c.cheaper.ensures.some in
    let n : length c.args.growing.now.pool.payloads + length c.in_ok-children.children.nodes.items
    < 4294967295 =
    (let h = c.has_numbers.ensures.0 c.if-not-has_numbers.false in let e =
    c.requires.counted in omega (arith, h, l, e)) in
    let key : c.key_at.result ≡ (cell_at c.args.growing.now.pool.payloads c.args.leaf).key =
    c.key_at.ensures
    ∙ ap (λ (cs : List Cell). (cell_at cs c.args.leaf).key)
    c.in_ok-reserve.ensures.nodes.payloads in
    let frees = subst (λ k. Updates c.args.growing.now.ready c.try_remove.new.self k None) key
    (freed_from c.args.growing.now.ready c.reserve-2.new.self c.try_remove.new.self c.key_at.result
    (ap (λ (s : Slab Ready). s.slots) c.in_ok-reserve-2.ensures.rest_kept)
    c.try_remove.ensures.updates) in
    let count =
    option_count_is (shape_of c.args.site.now) (node_of c.args.node) c.args.choice
    c.requires.choice in
    let k =
    count_seen g.E.Evaluator.past c.args.site.now (node_of c.args.node) (way_of c.args.choice)
    c.in_ok-children.children c.in_ok-children.ensures.seen in
    let w = width_is c.args.choice in
    let wide : width (way_of c.args.choice) ≡ length c.in_ok-children.children.nodes.items =
    omega (arith, count, k, w) in
    let cells : c.branch-growing.new.pool.payloads
    ≡ slice_set c.reserve.new.self.payloads c.args.leaf
    (as_parent (cell_at c.reserve.new.self.payloads c.args.leaf) c.args.growing.now.nodes
    (branch (way_of c.args.choice))) ++ cells_in_turn c.place_all-nodes.result.items
    = subst (λ (e : End Leaf). c.branch-growing.new.pool.payloads
    ≡ slice_set c.reserve.new.self.payloads c.args.leaf
    (as_parent (cell_at c.reserve.new.self.payloads c.args.leaf) c.args.growing.now.nodes e)
    ++ cells_in_turn c.place_all-nodes.result.items)
    c.end_with.ensures c.branch-growing.ensures.cells in
    branching g.E.Evaluator.past c.args.site.now (node_of c.args.node) c.args.growing.now new
    c.args.leaf (way_of c.args.choice) c.in_ok-children.children c.reserve.new.self
    c.place_all-nodes.result.items c.try_remove.new.self c.args.growing.now.nodes
    c.in_ok-children.ensures.seen wide c.in_ok-reserve.ensures.nodes c.requires.counted frees
    c.place_all-nodes.ensures
    cells c.branch-growing.ensures.values which fallen c.cheaper.ensures.found some n
    (ap (λ k. c.args.growing.now.nodes + k) l) c.branch-growing.ensures.open refl refl
    c.stop_at.ensures

pub returns-clause-solved : goal.returns-clause-solved
returns-clause-solved g c = λ all.
    solved_behind c.args.site.now c.args.growing.now.pool.payloads c.reserve.new.self.payloads
    c.branch-growing.new.pool.payloads c.args.leaf
    (as_parent (cell_at c.reserve.new.self.payloads c.args.leaf) c.args.growing.now.nodes
    (end_of c.end_with.result))
    c.in_ok-children.children.nodes.items c.place_all-nodes.result.items
    c.in_ok-children.children.ready.items c.try_remove.new.self c.place_all-nodes.new.hand
    c.in_ok-children.children.networks.items
    c.in_ok-reserve.ensures.nodes.payloads c.branch-growing.ensures.cells c.place_all-nodes.ensures
    (c.in_ok-children.ensures.solved all)
