use Rattle.std.proofs.Common.{◌≡◌}
use Rattle.report_rules.specs.number_sets.Sets.{has, IsWithin}
use Rattle.report_rules.specs.Number.{sum_from}
use Rattle.report_rules.specs.Amounts.{amount, unit_sum}
use Rattle.report_amounts.proofs.amounts.unit_sum.Given as goal

-- the sum so far and the units that are left give the whole sum
abbrev pub invariant-loop-u : goal.invariant-loop-u
invariant-loop-u l = record {
  within : IsWithin (has l.u-iterator) (has l.fn.network.units);
  sum : sum_from l.sum (amount l.fn.what l.fn.problem l.fn.network) l.u-iterator
      ≡ unit_sum l.fn.what l.fn.problem l.fn.network;
}
