-- Blanks are spaces and tabs, and no other byte. They are dropped at both ends of a text.
use Rattle.std.specs.Prelude.{◌==◌, ◌||◌, ◌-◌, ℕ, Bool, List, length, take, drop}
use Rattle.std.specs.List.{prefix_len, suffix_len}

abbrev pub is_blank : ℕ → Bool
is_blank c = c == 32 || c == 9

-- without the blanks in front, and without those at both ends
abbrev pub trim_front : List ℕ → List ℕ
trim_front text = drop (prefix_len is_blank text) text

abbrev pub trim_back : List ℕ → List ℕ
trim_back text = take (length text - suffix_len is_blank text) text

abbrev pub trim : List ℕ → List ℕ
trim text = trim_back (trim_front text)
