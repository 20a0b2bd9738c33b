use Rattle.std.proofs.Common.{arith}
use Rattle.flow_program.proofs.Cited.{next_of, IsNext}
use Rattle.dual_simplex.proofs.NumberLemmas.{place_below, filled_more}
use Rattle.dual_simplex.proofs.numbers.row_table.Goals as goal

pub bounds-table-place : goal.bounds-table-place
bounds-table-place c =
    let x = c.in-Some.material in
    let left = c.loop-material.material-iterator in
    let next =
    next_of 256 c.loop-material.material-iterator c.in-Some.material c.next.new.self
    c.loop-material.invariant.is_set c.in-Some.ensures.steps in
    place_below 256 c.args.set c.loop-material.table left c.loop-material.place x c.next.new.self
    c.into_iter-material-iterator.ensures.into_iter_gives.1 next
    c.loop-material.invariant.so_far

pub offset_bounds-table-place : goal.offset_bounds-table-place
offset_bounds-table-place c = let l = bounds-table-place c in omega (arith, l)

pub overflow_add-place : goal.overflow_add-place
overflow_add-place c = let l = bounds-table-place c in omega (arith, l)

pub loop-material-preserved : goal.loop-material-preserved
loop-material-preserved c = record {
  is_set =
      (next_of 256 c.loop-material.material-iterator c.in-Some.material c.next.new.self
      c.loop-material.invariant.is_set c.in-Some.ensures.steps).set;
  so_far =
      let next : IsNext 256 c.loop-material.material-iterator c.in-Some.material c.next.new.self
      = next_of 256 c.loop-material.material-iterator c.in-Some.material c.next.new.self
      c.loop-material.invariant.is_set c.in-Some.ensures.steps in
      filled_more 256 c.args.set c.loop-material.table c.loop-material.material-iterator
      c.loop-material.place c.in-Some.material c.next.new.self
      c.into_iter-material-iterator.ensures.into_iter_gives.1 next
      c.loop-material.invariant.so_far;
}
