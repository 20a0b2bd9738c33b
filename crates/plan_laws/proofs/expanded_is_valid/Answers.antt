use Rattle.plan_rules.specs.Expanded.{expanded}
use Rattle.plan_laws.proofs.Valid.{expanded_well_formed}
use Rattle.plan_laws.proofs.expanded_is_valid.Goals as goal

pub returns : goal.returns
returns c =
    λ p plan valid formed. (c.valid_is_well_formed.ensures (expanded p plan)).1
    (expanded_well_formed p plan ((c.valid_is_well_formed.ensures p).0 valid) formed)
