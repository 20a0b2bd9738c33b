use Rattle.pns_edits.specs.Renumbering.{new_number}
use Rattle.pns_edits.proofs.MappedLemmas.{changed_next}
use Rattle.pns_edits.proofs.numbering.renumber_members.Goals as goal

pub moving-preserved : goal.moving-preserved
moving-preserved c =
    changed_next (new_number c.args.by) c.args.members.now c.moving.members c.moving.member-index 0
    _ c.moving-test.true c.moving.invariant c.new_number.ensures
