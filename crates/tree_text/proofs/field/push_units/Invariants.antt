use Rattle.std.proofs.Common.{◌≡◌, map, string_bytes}
use Rattle.tree_text_rules.specs.tree_rules.Known.{AreUnits}
use Rattle.tree_text_rules.specs.Spelling.{unit_name}
use Rattle.tree_text.specs.Printing.{appended}
use Rattle.tree_text.proofs.field.push_units.Given as goal

-- the names so far and those that are left give the whole line
abbrev pub invariant-loop-unit : goal.invariant-loop-unit
invariant-loop-unit l = record {
  known : AreUnits l.problem l.unit-iterator;
  line : appended (string_bytes l.line) (map (unit_name l.problem) l.unit-iterator)
      ≡ appended (string_bytes l.fn.line) (map (unit_name l.problem) l.fn.units);
}
