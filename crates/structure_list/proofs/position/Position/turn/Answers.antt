use Rattle.std.proofs.Common.{subst, ◌<◌, arith}
use Rattle.pgraph.specs.unit_sets.declared.node.Node.{Node}
use Rattle.pgraph.specs.Tables.{shape}
use Rattle.structure_list.specs.Position.{IsSettled}
use Rattle.structure_list.proofs.PositionLemmas.{known_below, turn_found, settled_at}
use Rattle.structure_list.proofs.position.Position.turn.Goals as goal

pub returns-in_default-clause-settled : goal.returns-in_default-clause-settled
returns-in_default-clause-settled c =
    let g = shape c.args.graph.now in
    let P = λ (n : Node). IsSettled g n in
    subst P c.pass.invariant.node
    (settled_at g c.is_proper.ensures.proper c.pass.here c.pass.invariant.position
    c.in_default.is)

pub options-free-requires : goal.options-free-requires
options-free-requires c =
    known_below (shape c.args.graph.now) c.is_proper.ensures.proper c.pass.here
    c.pass.invariant.position c.in-Some.x c.in-Some.is

pub returns-in-Some-greatest-clause-turn : goal.returns-in-Some-greatest-clause-turn
returns-in-Some-greatest-clause-turn c =
    let g = shape c.args.graph.now in
    let few : g.units < 129 = omega (arith, c.is_proper.ensures.few_units) in
    turn_found g c.is_proper.ensures.proper c.pass.here c.pass.invariant.position c.in-Some.x
    c.in-Some.is
    c.options-free.result.1 c.options-free.ensures.free c.in-Some-greatest.unit few
    c.in-Some-greatest.ensures.some
