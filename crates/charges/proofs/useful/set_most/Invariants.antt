use Rattle.std.proofs.Common.{◌*ℤ◌}
use Rattle.structure_list.specs.number_sets.Sets.{IsSet}
use Rattle.structure_list.specs.flow_rules.Net.{net_of}
use Rattle.structure_list.specs.flow_rules.ChargeFacts.{use_rate}
use Rattle.charges.specs.Known.{facts_of}
use Rattle.charges.proofs.UseLemmas.{IsUseSum}
use Rattle.charges.proofs.useful.set_most.Given as goal

abbrev pub invariant-loop-u : goal.invariant-loop-u
invariant-loop-u l = record {
  is_set : IsSet 128 l.u-iterator;
  so_far : IsUseSum (λ u. use_rate (net_of l.fn.site) l.fn.j u *ℤ (facts_of l.fn.facts).most u)
      l.fn.set l.sum l.u-iterator;
}
