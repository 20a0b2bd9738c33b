use Rattle.std.proofs.Common.{subst, sym, ◌<◌, List, ℕ}
use Rattle.pgraph.specs.Tables.{shape}
use Rattle.structure_list.specs.Position.{IsPosition, free_count}
use Rattle.structure_list.proofs.NodeLemmas.{fewer_in}
use Rattle.structure_list.proofs.PositionLemmas.{position_of, position_in, needed_more}
use Rattle.structure_list.proofs.turn.Turn.taking.Goals as goal

pub returns-clause-position : goal.returns-clause-position
returns-clause-position c =
    let g = shape c.args.graph.now in
    let p = c.args.self.now.position in
    let wanted = c.union.result in
    let P =
    λ (xs : List ℕ). IsPosition g
    (position_of (record { inside = xs; outside = p.decided.node.outside }) p.decided.done
    wanted p.at) in
    subst P (sym c.with.ensures)
    (position_in g c.args.self.now c.requires wanted
    (needed_more g c.args.self.now.unit p.decided.node.inside p.wanted c.inputs.result c.raws.result
    c.minus-inputs.result wanted c.requires.known c.requires.position.wanted_is
    c.inputs.ensures c.raws.ensures c.minus-inputs.ensures c.union.ensures))

pub returns-clause-fewer : goal.returns-clause-fewer
returns-clause-fewer c =
    let g = shape c.args.graph.now in
    let n = c.args.self.now.position.decided.node in
    let P = λ (xs : List ℕ). free_count g (record { inside = xs; outside = n.outside })
    < free_count g n in
    subst P (sym c.with.ensures)
    (fewer_in g n c.args.self.now.unit c.requires.known c.requires.free)
