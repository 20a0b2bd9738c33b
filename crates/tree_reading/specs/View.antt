-- Lines and tokens of the code, as the rules speak of them.
use Rattle.std.specs.Prelude.{ℕ, suc, List, [], length, Option, Some, None}
use Rattle.std.specs.Borrow.{Bor}
use Rattle.std.specs.List.{slice_split}
use Rattle.tree_text_rules.specs.Line as rules
use Rattle.tree_reading.specs.declared.line.Line.{Line}

abbrev pub line_of : Line → rules.Line
line_of line = record { text = line.text.now; ended = line.ended }

-- the tokens of what is left of a line, or none if nothing is left
abbrev pub tokens_in : Option (Bor (List ℕ)) → List rules.Token
tokens_in None = []
tokens_in (Some rest) = slice_split rules.is_space rest.now

-- a measure of what is left of a line
abbrev pub size_in : Option (Bor (List ℕ)) → ℕ
size_in None = 0
size_in (Some rest) = suc (length rest.now)
