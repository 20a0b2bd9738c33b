use Rattle.unit_sets.specs.MaskInverse.{mask_of-members}
use Rattle.unit_sets.proofs.unit_set.UnitSet.from_bits.Goals as goal

pub returns : goal.returns
returns c = mask_of-members c.args.bits c.ranges.bits.fits
