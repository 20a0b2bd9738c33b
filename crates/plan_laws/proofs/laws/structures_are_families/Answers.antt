use Rattle.plan_laws.proofs.DesignLaws.{structures_are_families}
use Rattle.plan_laws.proofs.laws.structures_are_families.Goals as goal

pub returns : goal.returns
returns c = structures_are_families c.expanded_is_valid.ensures
