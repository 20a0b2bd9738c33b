use Rattle.std.proofs.Common.{◌≡◌}
use Rattle.pgraph.specs.Tables.{shape}
use Rattle.structure_list.specs.Stack.{IsStack, HaveSame, weight}
use Rattle.structure_list.proofs.search.next_structure.Given as goal

abbrev pub invariant-pop : goal.invariant-pop
invariant-pop g l = record {
  stack : IsStack (shape l.graph) l.stack;
  same : HaveSame (shape l.graph) l.fn.stack l.stack;
  no_step : (shape l.graph).exclusions ≡ 0 → l.steps ≡ l.fn.steps;
}

abbrev pub decreases-pop : goal.decreases-pop
decreases-pop g l = weight (shape l.graph) l.stack
