use Rattle.std.proofs.Common.{◌≡◌}
use Rattle.report_amounts.specs.number_sets.Sets.{has, IsWithin}
use Rattle.report_amounts.specs.report_rules.Drawn.{most_from}
use Rattle.graph_text.proofs.greatest.greatest_in.Given as goal

-- the number so far and the units that are left give the whole number
abbrev pub invariant-loop-u : goal.invariant-loop-u
invariant-loop-u l = record {
  within : IsWithin (has l.u-iterator) (has l.fn.network.units);
  most : most_from l.fn.problem l.fn.network l.most l.u-iterator
      ≡ most_from l.fn.problem l.fn.network 0 l.fn.network.units;
}
