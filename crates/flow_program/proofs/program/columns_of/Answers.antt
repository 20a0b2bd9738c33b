use Rattle.std.proofs.Common.{◌∙◌, sym, SFits, rules}
use Rattle.std.specs.Int.{w128}
use Rattle.std.proofs.lemmas.Int.{to_z-of_z}
use Rattle.flow_program.proofs.WalkLemmas.{next_of, head_had, is_next, shorter, next_had}
use Rattle.flow_program.proofs.WalkLemmas.{next_below}
use Rattle.pgraph.specs.View.{node_of}
use Rattle.flow_program.proofs.ProgramLemmas.{columns_more}
use Rattle.flow_program.proofs.program.columns_of.Goals as goal

pub put_rates-materials-requires-clause-unit : goal.put_rates-materials-requires-clause-unit
put_rates-materials-requires-clause-unit c =
    (c.requires.known c.in-Some.u
    (c.loop-u.invariant.so_far.within c.in-Some.u
    (head_had c.loop-u.u-iterator c.in-Some.u c.next.new.self c.in-Some.ensures.steps)))

pub unit_numbers-unit-requires-clause-unit : goal.unit_numbers-unit-requires-clause-unit
unit_numbers-unit-requires-clause-unit c =
    (c.requires.known c.in-Some.u
    (c.loop-u.invariant.so_far.within c.in-Some.u
    (head_had c.loop-u.u-iterator c.in-Some.u c.next.new.self c.in-Some.ensures.steps)))

pub loop-u-preserved : goal.loop-u-preserved
loop-u-preserved c = record {
  is_set =
      (next_of 128 c.loop-u.u-iterator c.in-Some.u c.next.new.self c.loop-u.invariant.is_set
      c.in-Some.ensures.steps).set;
  so_far = let co : SFits w128 c.unit_numbers-unit.result.cost = search rules in
      let lo : SFits w128 c.unit_numbers-unit.result.low = search rules in
      let hi : SFits w128 c.unit_numbers-unit.result.high = search rules in
      columns_more c.args.problem.now (node_of c.args.node.now) c.args.rows c.args.units
      c.loop-u.costs.items c.loop-u.lows.items c.loop-u.highs.items c.loop-u.rates.items
      c.push.new.self.items c.push-in-loop-u.new.self.items c.push-in-loop-u-2.new.self.items
      c.push_rates.new.list.items c.loop-u.u-iterator c.in-Some.u c.next.new.self
      (next_of 128 c.loop-u.u-iterator c.in-Some.u c.next.new.self c.loop-u.invariant.is_set
      c.in-Some.ensures.steps)
      c.put_rates-materials.result c.put_rates-materials.new.rates c.put_rates-materials.ensures
      c.unit_numbers-unit.result.cost c.unit_numbers-unit.result.low c.unit_numbers-unit.result.high
      c.unit_numbers-unit.ensures.cost c.unit_numbers-unit.ensures.low
      c.unit_numbers-unit.ensures.high
      (simp to_z-of_z at c.in_ok-push.ensures.items)
      (simp to_z-of_z at c.in_ok-push-2.ensures.items)
      (simp to_z-of_z at c.in_ok-push-3.ensures.items) c.in_ok-push_rates.ensures
      c.loop-u.invariant.so_far;
}
