use Rattle.pgraph.specs.number_sets.Sets.{IsSet}
use Rattle.std.proofs.Common.{◌≡◌, ◌++◌, length}
use Rattle.std.specs.Prelude.{map}
use Rattle.flow_program.specs.Entry.{rate_beside}
use Rattle.flow_program.proofs.program.push_rates.Given as goal

abbrev pub invariant-loop-j : goal.invariant-loop-j
invariant-loop-j l = record {
  is_set : IsSet 256 l.j-iterator;
  so_far : l.list.items ++ map (rate_beside l.fn.materials l.fn.rates) l.j-iterator
      ≡ l.fn.list.items ++ map (rate_beside l.fn.materials l.fn.rates) l.fn.rows;
}
