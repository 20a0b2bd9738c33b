use Rattle.flow_program.specs.pgraph.View.{node_of}
use Rattle.tree_rules.specs.flow_rules.Net.{net_of}
use Rattle.scaled_flows.proofs.FoundLemmas.{units_begin, units_more}
use Rattle.scaled_flows.proofs.divisors.unit_divisors.Goals as goal

pub units-init : goal.units-init
units-init c =
    units_begin (net_of c.args.problem.now) (node_of c.args.taken.now) (node_of c.args.free.now)

pub invariant_of-common : goal.invariant_of-common
invariant_of-common c =
    record {
      sizes_in_range = c.units.invariant.sizes_in_range;
      costs_in_range =
          c.units.invariant.costs_in_range;
    }

pub invariant_of-common-2 : goal.invariant_of-common-2
invariant_of-common-2 c =
    record {
      sizes_in_range = c.units.invariant.sizes_in_range;
      costs_in_range =
          c.units.invariant.costs_in_range;
    }

pub units-preserved : goal.units-preserved
units-preserved c = record {
  found =
      units_more (net_of c.args.problem.now) (node_of c.args.taken.now) (node_of c.args.free.now)
      c.units.common.0 c.units.common.1.0 c.with_unit-common.result.sizes
      c.with_unit-common.result.costs c.units.u
      c.with_unit-common.ensures.sizes c.with_unit-common.ensures.costs
      c.with_unit-common.ensures.low c.with_unit-common.ensures.high
      c.with_unit-common.ensures.taken_cost c.with_unit-common.ensures.free_cost
      c.units.invariant.found;
  sizes_in_range = c.with_unit-common.result.sizes_in_range;
  costs_in_range = c.with_unit-common.result.costs_in_range;
}
