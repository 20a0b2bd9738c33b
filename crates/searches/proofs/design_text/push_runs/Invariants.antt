use Rattle.std.proofs.Common.{◌≡◌, ◌++◌, ◌+◌, drop}
use Rattle.command_files.specs.studio_rules.Lines.{text_of}
use Rattle.command_files.specs.studio_rules.DesignText.{runs_lines}
use Rattle.searches.proofs.design_text.push_runs.Given as goal

abbrev pub invariant-running : goal.invariant-running
invariant-running l = record {
  text : l.text.items ++ text_of (runs_lines l.problem l.number (drop l.run-index l.runs))
      ≡ l.fn.text.items ++ text_of (runs_lines l.problem 1 l.runs);
  count : l.number ≡ l.run-index + 1;
}
