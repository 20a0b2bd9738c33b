use Rattle.std.proofs.Common.{◌≡◌, ◌+◌, ◌≤◌, ◌++◌, ◌∷◌, []}
use Rattle.pgraph.specs.number_sets.Sets.{has}
use Rattle.pgraph.specs.pns_rules.Structure.{IsAllowed}
use Rattle.pgraph.specs.Tables.{shape}
use Rattle.structure_list.specs.Position.{free_count}
use Rattle.structure_list.specs.Stack.{IsStack, HaveSame, weight}
use Rattle.structure_list.proofs.search.first_in.Given as goal

abbrev pub invariant-descend : goal.invariant-descend
invariant-descend g l = record {
  stack : IsStack (shape l.graph) (l.stack ++ l.here ∷ []);
  same : HaveSame (shape l.graph) (l.fn.stack ++ l.fn.position ∷ []) (l.stack ++ l.here ∷ []);
  allowed : IsAllowed (shape l.graph) (has l.here.decided.node.inside);
  less : weight (shape l.graph) (l.stack ++ l.here ∷ [])
      ≤ weight (shape l.graph) (l.fn.stack ++ l.fn.position ∷ []);
  few : (shape l.graph).exclusions ≡ 0
      → l.steps + free_count (shape l.graph) l.here.decided.node ≤ l.fn.steps
      + free_count (shape l.graph) l.fn.position.decided.node;
}

abbrev pub decreases-descend : goal.decreases-descend
decreases-descend g l = free_count (shape l.graph) l.here.decided.node
