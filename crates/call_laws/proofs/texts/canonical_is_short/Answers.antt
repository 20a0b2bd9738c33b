use Rattle.call_laws.proofs.TextSizes.{canonical_is_short}
use Rattle.call_laws.proofs.texts.canonical_is_short.Goals as goal

pub returns : goal.returns
returns c = canonical_is_short c.valid_is_well_formed.ensures
