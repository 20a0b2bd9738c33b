use Rattle.studio.proofs.Calls.{listings_join}
use Rattle.studio.proofs.laws.listings_join.Goals as goal

pub returns : goal.returns
returns c =
    λ first second whole file after token m n lines rest some some' calls puts
    other adds keep all kept.
    listings_join c.parts_join.ensures c.valid_is_well_formed.ensures file after token m n
    lines
    some some' first second whole rest calls puts other adds keep all kept
