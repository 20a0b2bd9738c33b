use Rattle.std.proofs.Common.{subst, sym, ◌<◌, List, ℕ}
use Rattle.pgraph.specs.Tables.{shape}
use Rattle.structure_list.specs.Position.{IsPosition, free_count}
use Rattle.structure_list.proofs.NodeLemmas.{fewer_out}
use Rattle.structure_list.proofs.PositionLemmas.{position_of, position_out}
use Rattle.structure_list.proofs.turn.Turn.leaving.Goals as goal

pub returns-clause-position : goal.returns-clause-position
returns-clause-position c =
    let g = shape c.args.graph.now in
    let p = c.args.self.now.position in
    let P =
    λ (xs : List ℕ). IsPosition g
    (position_of (record { inside = p.decided.node.inside; outside = xs }) p.decided.done
    p.wanted p.at) in
    subst P (sym c.with.ensures) (position_out g c.args.self.now c.requires)

pub returns-clause-fewer : goal.returns-clause-fewer
returns-clause-fewer c =
    let g = shape c.args.graph.now in
    let n = c.args.self.now.position.decided.node in
    let P = λ (xs : List ℕ). free_count g (record { inside = n.inside; outside = xs })
    < free_count g n in
    subst P (sym c.with.ensures)
    (fewer_out g n c.args.self.now.unit c.requires.known c.requires.free)
