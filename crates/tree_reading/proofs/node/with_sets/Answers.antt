use Rattle.tree_reading.proofs.NamedSets.{are_kept}
use Rattle.tree_reading.proofs.node.with_sets.Goals as goal

pub from_vec-covers-requires : goal.from_vec-covers-requires
from_vec-covers-requires c =
    are_kept c.args.problem.now c.in_ok-covers-in-Charge.covers.items
    c.is_valid.ensures.well_formed.few_units c.in_ok-covers-in-Charge.ensures.few
    c.in_ok-covers-in-Charge.ensures.known
