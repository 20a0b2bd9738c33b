-- The facts that a table has.
use Rattle.std.specs.Prelude.{◌==◌, ℕ, ℤ, Option, Some, None, cond, slice_index_or}
use Rattle.flow_program.specs.Entry.{entry}
use Rattle.structure_list.specs.flow_rules.ChargeFacts as rules
use Rattle.charges.specs.declared.facts.Demand.{Demand}
use Rattle.charges.specs.declared.facts.Facts.{Facts}

abbrev pub demand_of : Demand → rules.Demand
demand_of q = record { of = q.of; amount = q.amount; worth = q.worth }

abbrev pub asked_of : Option Demand → Option rules.Demand
asked_of None = None
asked_of (Some q) = Some (demand_of q)

abbrev pub facts_of : Facts → rules.Facts
facts_of f = record {
  least = entry f.least;
  most = entry f.most;
  used = λ j. slice_index_or f.used j None;
  demand = asked_of f.demand;
}

-- the sizes, but for another one of unit u
abbrev pub at_one : (ℕ → ℤ) → ℕ → ℤ → ℕ → ℤ
at_one sizes u size i = cond (u == i) size (sizes i)

-- the uses, but for another one of material j
abbrev pub known_at : (ℕ → Option ℤ) → ℕ → ℤ → ℕ → Option ℤ
known_at uses j amount m = cond (j == m) (Some amount) (uses m)
