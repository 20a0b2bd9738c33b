-- The end of a range on one side, while it is sought.
use Rattle.std.specs.Prelude.{◌≡◌, ◌+◌, ◌/◌, ◌≤◌, ◌<◌, ℕ, ℤ}
use Rattle.stability_laws.specs.report_rules.declared.side.Side.{Side}
use Rattle.stability_laws.specs.report_rules.Spot.{KnowsSpot, value_at, IsAllowedValue, value_on}
use Rattle.stability_laws.specs.report_rules.Range.{IsBestAt, IsCheaperAt, EndsAt}
use Rattle.stability.specs.Case.{Case}
use Rattle.stability.specs.Refusal.{IsStopAt}
use Rattle.stability.specs.declared.outcome.RangeFault.TheVariants.{Memory}
use Rattle.stability.specs.declared.side.Beyond.{Beyond}
use Rattle.stability.specs.declared.side.Beyond.TheVariants.{Cheaper, Wanting}
use Rattle.stability.specs.declared.side.Bracket.{Bracket}
use Rattle.stability.specs.declared.side.End.{End}

-- the value so far away on the side
abbrev pub there : Case → Side → ℕ → ℤ
there c side away = value_on side (value_at c.problem c.spot) away

-- a network is cheaper there, or no answer was found there
abbrev pub IsBeyond : Case → ℤ → Beyond → Type 0
IsBeyond c v (Cheaper n) = IsCheaperAt c.problem c.spot c.network v n
IsBeyond c v (Wanting fault) = IsStopAt c.problem c.spot c.network c.budget v fault

-- the network is optimal now and so far away, and farther away this was found
pub record IsBracket (c : Case) (side : Side) (b : Bracket) : Type 0 where
  pub known : KnowsSpot c.problem c.spot
  pub now_allowed : IsAllowedValue c.spot (value_at c.problem c.spot)
  pub best_now : IsBestAt c.problem c.spot c.network (value_at c.problem c.spot)
  pub best_good : IsBestAt c.problem c.spot c.network (there c side b.good)
  pub less : b.good < b.bad
  pub allowed : IsAllowedValue c.spot (there c side b.bad)
  pub is_beyond : IsBeyond c (there c side b.bad) b.beyond

-- the network is cheaper one step beyond; or no answer was found, and half the way is proved
abbrev pub IsSettledAs : ℕ → ℕ → Beyond → Type 0
IsSettledAs good bad (Cheaper n) = bad ≡ good + 1
IsSettledAs good bad (Wanting Memory) = Unit {0}
IsSettledAs good bad (Wanting fault) = bad / 2 ≤ good

abbrev pub IsSettled : Bracket → Type 0
IsSettled b = IsSettledAs b.good b.bad b.beyond

-- the range ends so far away on the side
pub record IsEnd (c : Case) (side : Side) (e : End) : Type 0 where
  pub allowed : IsAllowedValue c.spot (there c side e.away)
  pub best : IsBestAt c.problem c.spot c.network (there c side e.away)
  pub ends : EndsAt c.problem c.spot c.network side (there c side e.away) e.beyond
