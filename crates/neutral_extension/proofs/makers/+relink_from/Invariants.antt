use Rattle.std.proofs.Common.{length}
use Rattle.neutral_extension.proofs.makers.+relink_from.Given as goal

abbrev pub decreases-relink_from : goal.decreases-relink_from
decreases-relink_from l = length l.outputs
