use Rattle.std.proofs.Common.{◌+◌, ◌*◌, ◌≤◌, List, length}
use Rattle.structure_list.specs.number_sets.Sets.{has, IsSet, IsWithin}
use Rattle.structure_list.specs.pgraph.View.{node_of}
use Rattle.structure_list.specs.flow_rules.Net.{net_of}
use Rattle.flow_program.specs.Entry.{entry}
use Rattle.structure_list.specs.flow_rules.Cover.{Cover}
use Rattle.charges.specs.Known.{facts_of}
use Rattle.charges.specs.Ground.{ArePaid}
use Rattle.charges.proofs.GroundLemmas.{IsChargeSum}
use Rattle.charges.proofs.charge.with_units.Given as goal

abbrev pub invariant-loop-u : goal.invariant-loop-u
invariant-loop-u l = record {
  is_set : IsSet 128 l.u-iterator;
  within : IsWithin (has l.u-iterator) (has l.fn.ground.units);
  from_start : l.fn.from.at ≤ l.at;
  room : l.at + 1290 * length l.u-iterator ≤ l.fn.from.at + 1290 * length l.fn.ground.units;
  so_far : (covers : List Cover) → ArePaid l.fn.paid covers
      → IsChargeSum (net_of l.fn.site) (node_of l.fn.ground.node) (facts_of l.fn.ground.facts)
      l.fn.multipliers.d (entry l.fn.multipliers.ys) covers l.fn.ground.units l.fn.from.sum l.sum
      l.fn.from.at l.at l.u-iterator;
}
