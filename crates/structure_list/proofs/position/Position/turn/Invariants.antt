use Rattle.std.proofs.Common.{◌≡◌}
use Rattle.pgraph.specs.Tables.{shape}
use Rattle.structure_list.specs.Position.{IsPosition, undone_count}
use Rattle.structure_list.proofs.position.Position.turn.Given as goal

abbrev pub invariant-pass : goal.invariant-pass
invariant-pass l = record {
  position : IsPosition (shape l.graph) l.here;
  node : l.here.decided.node ≡ l.fn.self.decided.node;
}

abbrev pub decreases-pass : goal.decreases-pass
decreases-pass l = undone_count (shape l.graph) l.here
