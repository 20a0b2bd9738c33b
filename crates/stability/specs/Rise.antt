-- What the network's flows cost so far away on a side.
use Rattle.std.specs.Prelude.{◌+ℤ◌, ◌*ℤ◌, ℕ, ℤ}
use Rattle.stability_laws.specs.report_rules.declared.side.Side.{Side}
use Rattle.stability_laws.specs.report_rules.Range.{cost_at}
use Rattle.stability_laws.specs.report_rules.Rise.{least_rise}
use Rattle.stability.specs.Case.{Case}
use Rattle.stability.specs.Side.{there}

abbrev pub cost_there : Case → Side → ℕ → ℤ
cost_there c side away = cost_at c.problem c.spot c.network (there c side away)

-- one step away, if the cost rises as little as that of any structure can
abbrev pub least_cost : Case → Side → ℤ
least_cost c side = c.network.cost +ℤ least_rise c.problem c.spot side *ℤ c.network.d
