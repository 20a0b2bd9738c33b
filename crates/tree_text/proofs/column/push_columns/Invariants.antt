use Rattle.std.proofs.Common.{◌≡◌, map, drop, string_bytes}
use Rattle.tree_text_rules.specs.problem_rules.Each.{Each}
use Rattle.tree_text_rules.specs.tree_rules.Known.{KnowsColumn}
use Rattle.tree_text_rules.specs.Spelling.{column_text}
use Rattle.tree_text.specs.Printing.{appended}
use Rattle.tree_text.proofs.column.push_columns.Given as goal

abbrev pub invariant-printing : goal.invariant-printing
invariant-printing l = record {
  known : Each (KnowsColumn l.problem) (drop l.column-index l.columns);
  line : appended (string_bytes l.line)
      (map (column_text l.problem) (drop l.column-index l.columns))
      ≡ appended (string_bytes l.fn.line) (map (column_text l.problem) l.columns);
}
