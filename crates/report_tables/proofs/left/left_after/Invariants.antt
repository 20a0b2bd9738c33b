use Rattle.std.proofs.Common.{◌≡◌, pos}
use Rattle.text_lines.specs.number_sets.Sets.{IsSet}
use Rattle.cert_check.specs.flow_rules.Steps.{AreInRange}
use Rattle.cert_check.specs.flow_rules.BoundSteps.{reduced_steps}
use Rattle.cert_check.specs.flow_program.Columns.{left_of}
use Rattle.cert_check.specs.flow_program.Entry.{entry}
use Rattle.report_tables.proofs.left.left_after.Given as goal

-- what is left is that of all rows, and no step that is left is out of range
abbrev pub invariant-loop-j : goal.invariant-loop-j
invariant-loop-j l = record {
  is_set : IsSet 256 l.j-iterator;
  value : left_of (entry l.fn.ys) (entry l.fn.rates) l.j-iterator l.left
      ≡ left_of (entry l.fn.ys) (entry l.fn.rates) l.fn.materials (pos 0);
  steps : AreInRange (reduced_steps (entry l.fn.ys) (entry l.fn.rates) l.j-iterator l.left);
}
