use Rattle.std.proofs.Common.{◌≡◌, ◌++◌, string_bytes}
use Rattle.std.specs.Prelude.{flat_map}
use Rattle.report_amounts.specs.number_sets.Sets.{has, IsWithin}
use Rattle.report_amounts.specs.pns_problem.Printing.{printed}
use Rattle.report_amounts.specs.report_rules.Graph.{unit_lines}
use Rattle.graph_text.specs.Kept.{picture_of}
use Rattle.graph_text.proofs.units.push_units.Given as goal

-- the text so far and the lines that are left give the whole text
abbrev pub invariant-loop-u : goal.invariant-loop-u
invariant-loop-u l = record {
  within : IsWithin (has l.u-iterator) (has l.fn.units);
  text : string_bytes l.text
      ++ printed (flat_map (unit_lines (picture_of l.fn.picture)) l.u-iterator)
      ≡ string_bytes l.fn.text
      ++ printed (flat_map (unit_lines (picture_of l.fn.picture)) l.fn.units);
}
