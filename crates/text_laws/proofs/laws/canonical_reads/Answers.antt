use Rattle.text_laws.proofs.CanonicalReads.{canonical_reads as law}
use Rattle.text_laws.proofs.laws.canonical_reads.Goals as goal

pub returns : goal.returns
returns c = λ p valid. law p ((c.valid_is_well_formed.ensures p).0 valid)
