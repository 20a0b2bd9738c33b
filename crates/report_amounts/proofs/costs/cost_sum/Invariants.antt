use Rattle.std.proofs.Common.{◌≡◌}
use Rattle.report_rules.specs.number_sets.Sets.{has, IsWithin}
use Rattle.report_rules.specs.flow_rules.Net.{net_of, materials_of}
use Rattle.report_rules.specs.Number.{sum_from}
use Rattle.report_rules.specs.Amounts.{cost, part_of, cost_sum}
use Rattle.report_amounts.proofs.costs.cost_sum.Given as goal

-- the sum so far and the materials that are left give the whole sum
abbrev pub invariant-loop-j : goal.invariant-loop-j
invariant-loop-j l = record {
  within : IsWithin (has l.j-iterator)
      (has (materials_of (net_of l.fn.site) (has l.fn.network.units)));
  sum : sum_from l.sum (λ j. part_of l.fn.part (cost l.fn.site l.fn.network j)) l.j-iterator
      ≡ cost_sum l.fn.part l.fn.site l.fn.network;
}
