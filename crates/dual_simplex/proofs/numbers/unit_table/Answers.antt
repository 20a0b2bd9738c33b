use Rattle.std.proofs.Common.{arith}
use Rattle.flow_program.proofs.Cited.{next_of, IsNext}
use Rattle.dual_simplex.proofs.NumberLemmas.{place_below, filled_more}
use Rattle.dual_simplex.proofs.numbers.unit_table.Goals as goal

pub bounds-table-place : goal.bounds-table-place
bounds-table-place c =
    let x = c.in-Some.unit in
    let left = c.loop-unit.unit-iterator in
    let next =
    next_of 128 c.loop-unit.unit-iterator c.in-Some.unit c.next.new.self
    c.loop-unit.invariant.is_set c.in-Some.ensures.steps in
    place_below 128 c.args.set c.loop-unit.table left c.loop-unit.place x c.next.new.self
    c.into_iter-unit-iterator.ensures.into_iter_gives.1 next c.loop-unit.invariant.so_far

pub offset_bounds-table-place : goal.offset_bounds-table-place
offset_bounds-table-place c = let l = bounds-table-place c in omega (arith, l)

pub overflow_add-place : goal.overflow_add-place
overflow_add-place c = let l = bounds-table-place c in omega (arith, l)

pub loop-unit-preserved : goal.loop-unit-preserved
loop-unit-preserved c = record {
  is_set =
      (next_of 128 c.loop-unit.unit-iterator c.in-Some.unit c.next.new.self
      c.loop-unit.invariant.is_set c.in-Some.ensures.steps).set;
  so_far = let next : IsNext 128 c.loop-unit.unit-iterator c.in-Some.unit c.next.new.self
      = next_of 128 c.loop-unit.unit-iterator c.in-Some.unit c.next.new.self
      c.loop-unit.invariant.is_set c.in-Some.ensures.steps in
      filled_more 128 c.args.set c.loop-unit.table c.loop-unit.unit-iterator c.loop-unit.place
      c.in-Some.unit c.next.new.self c.into_iter-unit-iterator.ensures.into_iter_gives.1 next
      c.loop-unit.invariant.so_far;
}
