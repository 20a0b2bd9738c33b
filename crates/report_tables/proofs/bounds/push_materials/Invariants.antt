use Rattle.std.proofs.Common.{◌≡◌, ◌++◌, string_bytes}
use Rattle.std.specs.Prelude.{flat_map}
use Rattle.text_lines.specs.number_sets.Sets.{has, IsSet, IsWithin}
use Rattle.cert_check.specs.pgraph.View.{node_of}
use Rattle.cert_check.specs.pns_problem.Printing.{printed}
use Rattle.cert_check.specs.flow_rules.Net.{net_of}
use Rattle.cert_check.specs.flow_rules.Relaxed.{rows, lower_at}
use Rattle.cert_check.specs.flow_program.Entry.{entry}
use Rattle.report_amounts.specs.report_rules.Clash.{material_here, material_lines}
use Rattle.report_tables.proofs.bounds.push_materials.Given as goal

-- the text so far and the lines that are left give the whole text
abbrev pub invariant-loop-j : goal.invariant-loop-j
invariant-loop-j l = record {
  is_set : IsSet 256 l.j-iterator;
  within : IsWithin (has l.j-iterator) (has (rows (net_of l.fn.problem) (node_of l.fn.node)));
  text : string_bytes l.text
      ++ printed
      (flat_map
      (λ j. material_here l.fn.problem j (lower_at (net_of l.fn.problem) (node_of l.fn.node) j)
      (entry l.fn.ys j)) l.j-iterator)
      ≡ string_bytes l.fn.text
      ++ printed (material_lines l.fn.problem (node_of l.fn.node) (entry l.fn.ys));
}
