use Rattle.std.proofs.Common.{ap, subst, sym, refl, ◌∙◌, ◌<◌, List, ℕ, arith}
use Rattle.pgraph.specs.number_sets.Sets.{with_number, minus}
use Rattle.pgraph.specs.pns_rules.Nodes.{free_makers}
use Rattle.pgraph.specs.Tables.{shape}
use Rattle.pgraph.specs.View.{node_of}
use Rattle.structure_list.specs.Position.{IsPosition, undone_count}
use Rattle.structure_list.proofs.PositionLemmas.{position_of, position_passed, known_below}
use Rattle.structure_list.proofs.PositionLemmas.{fewer_undone}
use Rattle.structure_list.proofs.PositionLemmas.{first_due}
use Rattle.structure_list.proofs.position.Position.passing.Goals as goal

pub with-done-requires : goal.with-done-requires
with-done-requires c =
    let below =
    known_below (shape c.args.graph.now) c.is_proper.ensures.proper c.args.self
    c.requires.position c.args.x c.requires.at in
    let few = c.is_proper.ensures.few_materials in
    omega arith

pub returns-clause-position : goal.returns-clause-position
returns-clause-position c =
    let g = shape c.args.graph.now in
    let p = c.args.self in
    let x = c.args.x in
    let at = c.least.result in
    let P = λ (xs : List ℕ). IsPosition g (position_of p.decided.node xs p.wanted at) in
    subst P (sym c.with-done.ensures)
    (position_passed g c.is_proper.ensures.proper p c.requires.position x c.requires.at
    (free_makers g (node_of p.decided.node) x) refl c.requires.none_free at
    (c.least.ensures
    ∙ first_due g c.is_proper.ensures.proper p.decided.node.inside (with_number x p.decided.done)
    p.wanted c.minus-due.result c.requires.position.wanted_is
    (c.minus-due.ensures ∙ ap (minus p.wanted) c.with-done.ensures) c.rises.ensures.rising))

pub returns-clause-fewer : goal.returns-clause-fewer
returns-clause-fewer c =
    let g = shape c.args.graph.now in
    let p = c.args.self in
    let P = λ (xs : List ℕ). undone_count g (position_of p.decided.node xs p.wanted c.least.result)
    < undone_count g p in
    subst P (sym c.with-done.ensures)
    (fewer_undone g c.is_proper.ensures.proper p c.requires.position c.args.x c.requires.at
    c.least.result)
