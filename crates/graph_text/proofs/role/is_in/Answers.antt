use Rattle.std.proofs.Common.{arith}
use Rattle.graph_text.proofs.role.is_in.Goals as goal

pub has-requires : goal.has-requires
has-requires c = let l = c.requires in let few =
    c.is_valid.ensures.well_formed.few_units in omega (arith, l, few)
