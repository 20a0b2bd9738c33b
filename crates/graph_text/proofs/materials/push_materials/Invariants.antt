use Rattle.std.proofs.Common.{◌≡◌, ◌++◌, map, string_bytes}
use Rattle.report_amounts.specs.number_sets.Sets.{has, IsWithin}
use Rattle.report_amounts.specs.pns_problem.Printing.{printed}
use Rattle.report_amounts.specs.report_rules.Graph.{material_line}
use Rattle.graph_text.specs.Kept.{picture_of}
use Rattle.graph_text.proofs.materials.push_materials.Given as goal

-- the text so far and the lines that are left give the whole text
abbrev pub invariant-loop-j : goal.invariant-loop-j
invariant-loop-j l = record {
  within : IsWithin (has l.j-iterator) (has l.fn.materials);
  text : string_bytes l.text ++ printed (map (material_line (picture_of l.fn.picture)) l.j-iterator)
      ≡ string_bytes l.fn.text
      ++ printed (map (material_line (picture_of l.fn.picture)) l.fn.materials);
}
