use Rattle.std.proofs.Common.{◌≡◌, ◌++◌}
use Rattle.pns_text.specs.number_sets.Sets.{has, IsSet}
use Rattle.pns_text.specs.problem_rules.Problem.{unit_names}
use Rattle.studio_words.specs.studio_rules.Lines.{spaced_names, names_in}
use Rattle.command_files.proofs.line.push_unit_names.Given as goal

-- the names to come finish the line
abbrev pub invariant-loop-u : goal.invariant-loop-u
invariant-loop-u l = record {
  is_set : IsSet 128 l.u-iterator;
  line : l.bytes.items ++ spaced_names (names_in (has l.u-iterator) 0 (unit_names l.units))
      ≡ l.fn.bytes.items ++ spaced_names (names_in (has l.fn.set) 0 (unit_names l.units));
}
