-- Which texts are those of rankings, by their first lines alone.
use Rattle.std.specs.Prelude.{◌&&◌, ℕ, Bool, false, List, [], ◌∷◌}
use Rattle.std.specs.Str.{bytes_eq}
use Rattle.tree_text_rules.specs.Line.{Line, lines_of}
use Rattle.rank_rules.specs.Spelling.{file_type}

abbrev pub is_first_of_ranking : Line → Bool
is_first_of_ranking line = line.ended && bytes_eq line.text file_type

abbrev pub is_headed : List Line → Bool
is_headed [] = false
is_headed (line ∷ lines) = is_first_of_ranking line

abbrev pub is_ranking : List ℕ → Bool
is_ranking bytes = is_headed (lines_of bytes)
