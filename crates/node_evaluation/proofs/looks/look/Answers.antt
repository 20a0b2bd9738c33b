use Rattle.std.proofs.Common.{◌≡◌, map, refl, sym, ap, subst}
use Rattle.structure_list.specs.pns_rules.Shape.{shape_of}
use Rattle.structure_list.specs.pns_rules.Ends.{IsUndecided, IsFirst, EndsAt, dead, clash, branch}
use Rattle.structure_list.specs.pgraph.Tables.{shape}
use Rattle.search_tree.specs.Cells.{Cell}
use Rattle.neutral_extension.specs.declared.end.Stop.{Stop}
use Rattle.structure_list.specs.pgraph.View.{node_of, step_of}
use Rattle.structure_list.specs.unit_sets.declared.node.Node.{Node}
use Rattle.search_tree.specs.tree_rules.Leaf as leaves
use Rattle.neutral_extension.specs.Moves.{stop_of}
use Rattle.structure_list.proofs.pns_rules.Cited.{proper_if_valid}
use Rattle.node_evaluation.proofs.KnownLemmas.{known_dead}
use Rattle.node_evaluation.proofs.LookLemmas.{moved, looked_ok, looked_closed}
use Rattle.node_evaluation.proofs.looks.look.Goals as goal

pub look_first-requires-clause-first : goal.look_first-requires-clause-first
look_first-requires-clause-first g c =
    let x = c.in_ok-extended.extended in
    let p = c.args.site.now in
    let ends : EndsAt (shape_of p) (node_of x.node) (stop_of x.end) =
    (moved (shape c.graph-graph.result.now) (shape_of p) c.graph-graph.ensures.same
    (node_of c.args.start) (map step_of x.steps.items) (node_of x.node) (stop_of x.end)
    c.in_ok-extended.ensures.extends).ends in
    let first : EndsAt (shape_of p) (node_of x.node) (branch c.in-Branch.material) =
    subst (λ (s : Stop). EndsAt (shape_of p) (node_of x.node) (stop_of s)) c.in-Branch.is
    ends in
    subst (λ (m : Node). IsFirst (IsUndecided (shape_of p) (node_of m)) c.in-Branch.material)
    (sym (ap (λ (d : Cell). d.node) c.open_cell-cell.ensures)) first.1

pub returns-in-Dead-clause-looked : goal.returns-in-Dead-clause-looked
returns-in-Dead-clause-looked g c =
    let x = c.in_ok-extended.extended in
    let p = c.args.site.now in
    let ends : EndsAt (shape_of p) (node_of x.node) (stop_of x.end) =
    (moved (shape c.graph-graph.result.now) (shape_of p) c.graph-graph.ensures.same
    (node_of c.args.start) (map step_of x.steps.items) (node_of x.node) (stop_of x.end)
    c.in_ok-extended.ensures.extends).ends in
    let end : EndsAt (shape_of p) (node_of x.node) (dead c.in-Dead.material) =
    subst (λ (s : Stop). EndsAt (shape_of p) (node_of x.node) (stop_of s)) c.in-Dead.is ends in
    looked_closed g.E.Evaluator.past p (shape c.graph-graph.result.now) c.graph-graph.ensures.same
    (node_of c.args.start) c.args.option (map step_of x.steps.items) c.from_vec.result x.node
    (stop_of x.end)
    c.open_cell-cell.result (proper_if_valid c.args.site.now c.problem.ensures.valid)
    c.requires.option c.from_vec.ensures c.open_cell-cell.ensures
    c.in_ok-extended.ensures.extends c.closed.result (leaves.dead c.in-Dead.material)
    c.closed.ensures.cell c.closed.ensures.network c.closed.ensures.stop
    (λ (e : leaves.IsUntried (leaves.dead c.in-Dead.material)). let q : leaves.dead
    c.in-Dead.material ≡ leaves.untried e.0 = e.1 in cc) refl refl end.0
    (known_dead p (proper_if_valid p c.problem.ensures.valid) (node_of x.node) c.in-Dead.material
    end.0)

pub returns-in-Clash-clause-looked : goal.returns-in-Clash-clause-looked
returns-in-Clash-clause-looked g c =
    let x = c.in_ok-extended.extended in
    let p = c.args.site.now in
    let ends : EndsAt (shape_of p) (node_of x.node) (stop_of x.end) =
    (moved (shape c.graph-graph.result.now) (shape_of p) c.graph-graph.ensures.same
    (node_of c.args.start) (map step_of x.steps.items) (node_of x.node) (stop_of x.end)
    c.in_ok-extended.ensures.extends).ends in
    let end : EndsAt (shape_of p) (node_of x.node) (clash c.in-Clash.exclusion) =
    subst (λ (s : Stop). EndsAt (shape_of p) (node_of x.node) (stop_of s)) c.in-Clash.is ends in
    looked_closed g.E.Evaluator.past p (shape c.graph-graph.result.now) c.graph-graph.ensures.same
    (node_of c.args.start) c.args.option (map step_of x.steps.items) c.from_vec.result x.node
    (stop_of x.end)
    c.open_cell-cell.result (proper_if_valid c.args.site.now c.problem.ensures.valid)
    c.requires.option c.from_vec.ensures c.open_cell-cell.ensures
    c.in_ok-extended.ensures.extends c.closed-in-Clash.result
    (leaves.clash c.in-Clash.exclusion)
    c.closed-in-Clash.ensures.cell c.closed-in-Clash.ensures.network c.closed-in-Clash.ensures.stop
    (λ (e : leaves.IsUntried (leaves.clash c.in-Clash.exclusion)). let q : leaves.clash
    c.in-Clash.exclusion ≡ leaves.untried e.0 = e.1 in cc) refl refl end.1.0 end.1.0.known

pub returns-in-Decided-clause-looked : goal.returns-in-Decided-clause-looked
returns-in-Decided-clause-looked g c =
    let x = c.in_ok-extended.extended in
    looked_ok g.E.Evaluator.past c.args.site.now (shape c.graph-graph.result.now)
    c.graph-graph.ensures.same (node_of c.args.start) c.args.option (map step_of x.steps.items)
    c.from_vec.result x.node (stop_of x.end)
    c.open_cell-cell.result (proper_if_valid c.args.site.now c.problem.ensures.valid)
    c.requires.option c.from_vec.ensures c.open_cell-cell.ensures
    c.in_ok-extended.ensures.extends c.look_closer.result c.look_closer.ensures.same
    c.look_closer.ensures.seen

pub returns-in-Branch-clause-looked : goal.returns-in-Branch-clause-looked
returns-in-Branch-clause-looked g c =
    let x = c.in_ok-extended.extended in
    looked_ok g.E.Evaluator.past c.args.site.now (shape c.graph-graph.result.now)
    c.graph-graph.ensures.same (node_of c.args.start) c.args.option (map step_of x.steps.items)
    c.from_vec.result x.node (stop_of x.end)
    c.open_cell-cell.result (proper_if_valid c.args.site.now c.problem.ensures.valid)
    c.requires.option c.from_vec.ensures c.open_cell-cell.ensures
    c.in_ok-extended.ensures.extends c.look_first.result c.look_first.ensures.same
    c.look_first.ensures.seen
