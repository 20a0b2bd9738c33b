use Rattle.std.proofs.Common.{◌≡◌, [], map, ◌-◌, length}
use Rattle.tree_text_rules.specs.problem_rules.Each.{Each}
use Rattle.branch_tree.specs.pgraph.View.{step_of}
use Rattle.tree_text_rules.specs.tree_rules.Known.{KnowsStep}
use Rattle.tree_text_rules.specs.Read.{steps_taken}
use Rattle.tree_reading.specs.Place.{IsReached, lines_at}
use Rattle.tree_reading.proofs.head.read_steps.Given as goal

-- the steps so far and the lines that are left give all steps
abbrev pub invariant-steps : goal.invariant-steps
invariant-steps l = record {
  whole : steps_taken l.fn.problem
      (record { option = l.fn.option; steps = map step_of l.steps.items }) l.at.line
      (lines_at l.fn.bytes l.at)
      ≡ steps_taken l.fn.problem (record { option = l.fn.option; steps = [] }) l.fn.cut.line
      (lines_at l.fn.bytes l.fn.cut);
  reached : IsReached l.fn.bytes l.fn.cut l.at;
  known : Each (KnowsStep l.fn.problem) (map step_of l.steps.items);
}

abbrev pub decreases-steps : goal.decreases-steps
decreases-steps l = length l.fn.bytes - l.at.at
