use Rattle.std.proofs.Common.{◌≡◌, map, length}
use Rattle.pgraph.specs.number_sets.Sets.{has, listed}
use Rattle.pgraph.specs.Tables.{shape}
use Rattle.pgraph.specs.View.{node_of, step_of}
use Rattle.pgraph.specs.pns_rules.Ends.{IsSound, Leads}
use Rattle.pgraph.specs.pns_rules.Nodes.{is_free}
use Rattle.neutral_extension.specs.Candidates.{IsFront}
use Rattle.pgraph.specs.problem_rules.Each.{Each}
use Rattle.neutral_extension.specs.Moves.{HasSet}
use Rattle.neutral_extension.specs.OpenLeaf.{Stands, Follows, AllLead}
use Rattle.neutral_extension.proofs.extension.extend_from.Given as goal

abbrev pub invariant-steps : goal.invariant-steps
invariant-steps l = record {
  path : Leads (shape l.graph) (node_of l.fn.node) (map step_of l.steps.items)
      (node_of l.leaf.node);
  sound : IsSound (shape l.graph) (node_of l.leaf.node);
  stands : Stands (shape l.graph) l.leaf;
  follows : Follows (shape l.graph) l.makers l.leaf;
  leading : AllLead (shape l.graph) (has l.leading);
  makers : l.makers.makers ≡ l.fn.makers.makers;
  front : IsFront l.fn.makers.taken l.makers.taken;
  sets : Each (HasSet (shape l.graph)) (map step_of l.steps.items);
}

abbrev pub decreases-steps : goal.decreases-steps
decreases-steps l =
    length (listed (shape l.graph).units (is_free (shape l.graph) (node_of l.leaf.node)))
