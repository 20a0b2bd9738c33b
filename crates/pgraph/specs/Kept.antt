-- What the type of the covers of a charge keeps.
use Rattle.std.specs.Prelude.{◌<◌, ◌≤◌, ℤ, pos, ◌≤ℤ◌, List, length, IfSome}
use Rattle.flow_rules.specs.integer_laws.Range.{InRange}
use Rattle.flow_rules.specs.problem_rules.Each.{Each}
use Rattle.flow_rules.specs.Cover.{Cover}

-- the weight is in range and not below 0, and a unit beside the set is below 128
pub record IsKept (c : Cover) : Type 0 where
  pub in_range : InRange c.weight
  pub not_negative : pos 0 ≤ℤ c.weight
  pub beside : IfSome c.beside (λ u. u < 128)

-- there are a million at most
pub record AreKept (covers : List Cover) : Type 0 where
  pub few : length covers ≤ 1000000
  pub each : Each IsKept covers
