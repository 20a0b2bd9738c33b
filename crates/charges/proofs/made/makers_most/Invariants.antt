use Rattle.std.proofs.Common.{◌*ℤ◌, pos}
use Rattle.std.specs.Int.{int_max}
use Rattle.structure_list.specs.number_sets.Sets.{IsSet}
use Rattle.structure_list.specs.flow_rules.Net.{net_of}
use Rattle.charges.specs.Known.{facts_of}
use Rattle.charges.proofs.UseLemmas.{IsUseSum}
use Rattle.charges.proofs.made.makers_most.Given as goal

abbrev pub invariant-loop-u : goal.invariant-loop-u
invariant-loop-u l = record {
  is_set : IsSet 128 l.u-iterator;
  so_far : IsUseSum (λ u. int_max (pos 0) ((net_of l.fn.site).rate l.fn.j u) *ℤ
      (facts_of l.fn.facts).most u)
      l.fn.set l.sum l.u-iterator;
}
