use Rattle.std.proofs.Common.{◌≡◌, ◌++◌, string_bytes, pos}
use Rattle.std.specs.Prelude.{flat_map}
use Rattle.text_lines.specs.number_sets.Sets.{has, IsWithin}
use Rattle.cert_check.specs.pgraph.View.{node_of}
use Rattle.cert_check.specs.pns_problem.Printing.{printed}
use Rattle.cert_check.specs.flow_rules.Net.{net_of}
use Rattle.cert_check.specs.flow_rules.Relaxed.{unit_low, reduced_cost}
use Rattle.cert_check.specs.flow_program.Entry.{entry}
use Rattle.report_amounts.specs.report_rules.Clash.{unit_here, unit_lines}
use Rattle.report_tables.proofs.bounds.push_units.Given as goal

-- the text so far and the lines that are left give the whole text
abbrev pub invariant-loop-u : goal.invariant-loop-u
invariant-loop-u l = record {
  within : IsWithin (has l.u-iterator) (has l.fn.set);
  text : string_bytes l.text
      ++ printed
      (flat_map
      (λ i. unit_here l.fn.site i (unit_low (net_of l.fn.site) (node_of l.fn.node) i)
      (reduced_cost (net_of l.fn.site) (node_of l.fn.node) (pos 0) (entry l.fn.ys) i))
      l.u-iterator)
      ≡ string_bytes l.fn.text
      ++ printed (unit_lines l.fn.site (node_of l.fn.node) (entry l.fn.ys));
}
