use Rattle.std.proofs.Common.{◌∙◌}
use Rattle.std.proofs.lemmas.Bool.{both_ways}
use Rattle.unit_sets.proofs.HalfLemmas.{no_low}
use Rattle.unit_sets.proofs.mat_set.MatSet.is_empty.Goals as goal

pub returns-else-is_empty : goal.returns-else-is_empty
returns-else-is_empty c = (
  λ e. absurd (both_ways c.is_empty.result c.if-is_empty.false e),
  λ e. c.is_empty.ensures.1 (no_low c.self.inside.low c.self.inside.high (c.self.view_is ∙ e)),
)
