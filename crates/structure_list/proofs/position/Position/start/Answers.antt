use Rattle.std.proofs.Common.{ap, ap₂, subst₂, sym, ◌∙◌, List, ℕ}
use Rattle.pgraph.specs.number_sets.Sets.{has}
use Rattle.pgraph.specs.pns_rules.Structure.{is_needed}
use Rattle.pgraph.specs.pns_rules.Trace.{least_below}
use Rattle.pgraph.specs.Tables.{shape}
use Rattle.structure_list.specs.Due.{is_due}
use Rattle.structure_list.specs.Position.{IsPosition}
use Rattle.structure_list.proofs.PositionLemmas.{position_of, position_start}
use Rattle.structure_list.proofs.position.Position.start.Goals as goal

pub returns-clause-position : goal.returns-clause-position
returns-clause-position c =
    let g = shape c.args.graph.now in
    let wanted = c.needed-wanted.result in
    let at = c.first_needed-at.result in
    let P =
    λ (xs ys : List ℕ). IsPosition g
    (position_of (record { inside = xs; outside = c.args.outside }) ys wanted at) in
    subst₂ P (sym c.empty-none.ensures) (sym c.empty.ensures)
    (position_start g c.args.outside wanted at
    (λ x. ap (λ t. t x) c.needed-wanted.ensures
    ∙ ap (λ xs. is_needed g (has xs) x) c.empty-none.ensures)
    (c.first_needed-at.ensures
    ∙ ap₂ (λ (xs ys : List ℕ). least_below g.materials (is_due g (has xs) (has ys)))
    c.empty-none.ensures c.empty.ensures))
