use Rattle.call_laws.proofs.LeafCalls.{spent_leaves_are_nodes}
use Rattle.call_laws.proofs.leaves.spent_leaves_are_nodes.Goals as goal

pub returns : goal.returns
returns c =
    spent_leaves_are_nodes c.open_leaves_stand.ensures c.valid_is_proper.ensures
    c.valid_is_well_formed.ensures
