use Rattle.std.proofs.Common.{◌≡◌, map, string_bytes}
use Rattle.network_commands.specs.problem_rules.Each.{Each}
use Rattle.network_commands.specs.tree_text_rules.PartSpelling.{KnowsPart}
use Rattle.network_commands.specs.studio_rules.Keeps.{Keeps}
use Rattle.part_commands.proofs.PartFiles.{GiveBefore}
use Rattle.part_commands.proofs.part_file.parts_of.Given as goal

-- the files before this one give the parts, and nothing is printed
abbrev pub invariant-reading : goal.invariant-reading
invariant-reading g l = record {
  given : GiveBefore (g.F.Shelf.state l.fn.shelf).held l.problem (map string_bytes l.names)
      l.name-index l.parts.items;
  known : Each (KnowsPart l.problem) l.parts.items;
  silent : l.out ≡ l.fn.out;
  keeps : Keeps (g.F.Shelf.state l.fn.shelf) (g.F.Shelf.state l.shelf);
}
