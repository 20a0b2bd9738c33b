-- Names of materials, units and exclusions, and words in a list of words.
use Rattle.std.specs.Prelude.{◌==◌, ◌&&◌, ◌||◌, ℕ, Bool, false, List, [], ◌∷◌, length, nat_le}
use Rattle.std.specs.Prelude.{slice_index, if◌then◌else◌}
use Rattle.std.specs.List.{list_all, list_any}
use Rattle.std.specs.Str.{bytes_eq, byte}
use Rattle.std.specs.Char.{is_ascii_alphabetic, is_ascii_digit}

abbrev pub begins_name : ℕ → Bool
begins_name c = is_ascii_alphabetic c || c == byte "_"

abbrev pub continues_name : ℕ → Bool
continues_name c = begins_name c || is_ascii_digit c || c == byte "-" || c == byte "."

-- a letter or `_`, then letters, digits, `_`, `-` or `.`, at most 64 bytes
abbrev pub is_name : List ℕ → Bool
is_name text =
    nat_le 1 (length text) && nat_le (length text) 64 && begins_name (slice_index text 0) &&
    list_all continues_name text

-- the text is one of the words
abbrev pub is_among : List (List ℕ) → List ℕ → Bool
is_among words text = list_any (λ word. bytes_eq word text) words

-- some word is in the list twice
abbrev pub has_double : List (List ℕ) → Bool
has_double [] = false
has_double (word ∷ words) = is_among words word || has_double words

-- the words of a list, each once
abbrev pub distinct : List (List ℕ) → List (List ℕ)
distinct [] = []
distinct (word ∷ words) = if is_among words word then distinct words else word ∷ distinct words
