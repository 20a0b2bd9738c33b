use Rattle.std.proofs.Common.{◌≡◌, ◌++◌, drop, string_bytes}
use Rattle.std.specs.Prelude.{flat_map}
use Rattle.std.specs.List.{AllByRecursion}
use Rattle.cert_check.specs.pns_problem.Printing.{printed}
use Rattle.report_amounts.specs.report_rules.Clash.{leaf_lines}
use Rattle.report_tables.specs.View.{leaves_of, IsGood}
use Rattle.report_tables.proofs.clash_text.push_leaves.Given as goal

-- the text so far and the lines of the leaves that are left give the whole text
abbrev pub invariant-leaves : goal.invariant-leaves
invariant-leaves l = record {
  good : AllByRecursion (IsGood l.site) (leaves_of l.nodes (drop l.leaf-index l.leaves));
  text : string_bytes l.text
      ++ printed (flat_map (leaf_lines l.site) (leaves_of l.nodes (drop l.leaf-index l.leaves)))
      ≡ string_bytes l.fn.text
      ++ printed (flat_map (leaf_lines l.site) (leaves_of l.nodes l.leaves));
}
