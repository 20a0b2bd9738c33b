-- What the type of networks keeps: that they are sized, and all numbers are in range.
use Rattle.tree_rules.specs.integer_laws.Range.{InRange, AllInRange}
use Rattle.tree_rules.specs.Claim.{Network, IsSized}

pub record IsKept (w : Network) : Type 0 where
  pub sized : IsSized w
  pub sizes_in_range : AllInRange w.sizes
  pub d_in_range : InRange w.d
  pub cost_in_range : InRange w.cost
