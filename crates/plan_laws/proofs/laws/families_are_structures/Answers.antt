use Rattle.plan_laws.proofs.DesignLaws.{families_are_structures}
use Rattle.plan_laws.proofs.laws.families_are_structures.Goals as goal

pub returns : goal.returns
returns c = families_are_structures c.expanded_is_valid.ensures
