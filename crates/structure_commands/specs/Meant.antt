-- The lines of a text that are still to come.
use Rattle.std.specs.Prelude.{ℕ, List, filter}
use Rattle.text_lines.specs.text_rules.declared.Section.{Section}
use Rattle.text_lines.specs.text_rules.Line.{Placed, matters, standing, placed_from}

-- those that have a meaning, after lines of the section; the first of all has the number
abbrev pub meant_from : Section → ℕ → List (List ℕ) → List Placed
meant_from section number texts = filter matters (standing (placed_from number section texts))
