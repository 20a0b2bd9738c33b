-- Words and cells of the code, as the rules speak of them.
use Rattle.std.specs.Prelude.{ℕ, List, Option, filter}
use Rattle.std.specs.Borrow.{Bor}
use Rattle.report_rules.specs.tree_text_rules.Line.{Token, has_bytes}
use Rattle.tree_reading.specs.View.{tokens_in}
use Rattle.report_rules.specs.RangeTable as rules
use Rattle.json_text.specs.declared.words.Cells.{Cells}

-- the words of what is left of a line
abbrev pub words_in : Option (Bor (List ℕ)) → List Token
words_in rest = filter has_bytes (tokens_in rest)

abbrev pub cells_of : Cells → rules.Cells
cells_of cells = record {
  kind = cells.kind.now;
  name = cells.name.now;
  from = cells.from.now;
  value = cells.value.now;
  to = cells.to.now;
}
