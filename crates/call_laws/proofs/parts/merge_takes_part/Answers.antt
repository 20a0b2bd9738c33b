use Rattle.call_laws.proofs.PartCalls.{merge_takes_part}
use Rattle.call_laws.proofs.parts.merge_takes_part.Goals as goal

pub returns : goal.returns
returns c =
    merge_takes_part c.parts_are_read_once.ensures c.open_leaves_stand.ensures
    c.open_leaves_decide.ensures.whole c.claim_has_one_fault.ensures.passes
    c.tree_has_one_fault.ensures.passes c.valid_is_proper.ensures c.valid_is_well_formed.ensures
