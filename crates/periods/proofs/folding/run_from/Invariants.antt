use Rattle.std.proofs.Common.{◌≡◌, ◌+◌, map}
use Rattle.plan_laws.specs.number_sets.Sets.{has, listed}
use Rattle.plan_laws.specs.tree_rules.Claim.{size_in}
use Rattle.periods.proofs.folding.run_from.Given as goal

abbrev pub invariant-taking : goal.invariant-taking
invariant-taking l = record {
  units : l.units ≡ listed l.i (λ i. has l.network.units (l.first + i));
  sizes : l.sizes.items ≡ map (λ i. size_in l.network (l.first + i))
      (listed l.i (λ i. has l.network.units (l.first + i)));
}
