use Rattle.std.proofs.Common.{◌≡◌, ◌≤◌, length, drop, Some}
use Rattle.tree_parts.specs.cert_check.OpenLeaves.{leaves_at}
use Rattle.report_rules.specs.Verdict.{cost_of}
use Rattle.verdicts.specs.Lower.{lows}
use Rattle.verdicts.proofs.lower.lower_bound.Given as goal

abbrev pub invariant-leaves : goal.invariant-leaves
invariant-leaves l = record {
  within : l.at ≤ length l.leaves;
  so_far : lows l.site l.tree (drop l.at (leaves_at l.leaves)) ≡ Some (cost_of l.low);
}

abbrev pub decreases-leaves : goal.decreases-leaves
decreases-leaves l = l.at
