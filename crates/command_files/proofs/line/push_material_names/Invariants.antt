use Rattle.std.proofs.Common.{◌≡◌, ◌++◌}
use Rattle.pns_text.specs.number_sets.Sets.{has, IsSet}
use Rattle.pns_text.specs.problem_rules.Problem.{material_names}
use Rattle.studio_words.specs.studio_rules.Lines.{spaced_names, names_in}
use Rattle.command_files.proofs.line.push_material_names.Given as goal

-- the names to come finish the line
abbrev pub invariant-loop-x : goal.invariant-loop-x
invariant-loop-x l = record {
  is_set : IsSet 256 l.x-iterator;
  line : l.bytes.items ++ spaced_names (names_in (has l.x-iterator) 0 (material_names l.materials))
      ≡ l.fn.bytes.items ++ spaced_names (names_in (has l.fn.set) 0 (material_names l.materials));
}
