use Rattle.std.proofs.Common.{map, ap, ◌∙◌, arith}
use Rattle.std.proofs.lemmas.List.{with_items_is}
use Rattle.edit_laws.specs.edit_rules.Numbering.{in_term, in_unit}
use Rattle.pns_edits.specs.Renumbering.{new_number}
use Rattle.pns_edits.proofs.MappedLemmas.{changed_next, in_unit_is}
use Rattle.pns_edits.proofs.numbering.renumber_units.Goals as goal

pub moving-preserved : goal.moving-preserved
moving-preserved c =
    let new = new_number c.args.by in
    changed_next (in_unit new) c.args.units.now c.moving.units c.moving.unit-index
    c.unit-item.result _ c.moving-test.true c.moving.invariant
    (in_unit_is new _ _ _ _ c.unit.view_is
    (with_items_is c.unit.inside.inputs c.renumber_terms.new.terms (omega arith)
    ∙ (c.renumber_terms.ensures ∙ ap (map (in_term new)) c.deref_mut.ensures.value))
    (with_items_is c.unit.inside.outputs c.renumber_terms-in-moving.new.terms (omega arith)
    ∙ (c.renumber_terms-in-moving.ensures
    ∙ ap (map (in_term new)) c.deref_mut-in-moving.ensures.value)))
