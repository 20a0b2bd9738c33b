use Rattle.std.proofs.Common.{map, ap, ◌∙◌, arith}
use Rattle.std.proofs.lemmas.List.{with_items_is}
use Rattle.edit_laws.specs.edit_rules.Numbering.{in_exclusion}
use Rattle.pns_edits.specs.Renumbering.{new_number}
use Rattle.pns_edits.proofs.MappedLemmas.{changed_next, in_exclusion_is}
use Rattle.pns_edits.proofs.numbering.renumber_exclusions.Goals as goal

pub moving-preserved : goal.moving-preserved
moving-preserved c =
    let new = new_number c.args.by in
    changed_next (in_exclusion new) c.args.exclusions.now c.moving.exclusions
    c.moving.exclusion-index c.exclusion-item.result _ c.moving-test.true c.moving.invariant
    (in_exclusion_is new _ _ _ c.exclusion.view_is
    (with_items_is c.exclusion.inside.units c.renumber_members.new.members (omega arith)
    ∙ (c.renumber_members.ensures ∙ ap (map new) c.deref_mut.ensures.value)))
