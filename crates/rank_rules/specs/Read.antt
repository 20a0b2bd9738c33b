-- The ranking that a text stands for, or its first fault: that of the first line that has one, with
-- its kind. Tree and tail are read from the tree text that has the line `open` for each line that
-- names a network. If such a line has a fault, and that tree text has none up to this line, the
-- fault of the line counts.
use Rattle.std.specs.Prelude.{ℕ, zero, suc, nat_le, nat_lt, Bool, true, false, ◌&&◌, List, [], ◌∷◌}
use Rattle.std.specs.Prelude.{map, Result, Ok, Err, if◌then◌else◌}
use Rattle.std.specs.Str.{bytes_eq}
use Rattle.tree_text_rules.specs.problem_rules.Problem.{Problem}
use Rattle.tree_text_rules.specs.tree_rules.Claim.{Network}
use Rattle.tree_text_rules.specs.tree_rules.Accepted.{Tree}
use Rattle.tree_text_rules.specs.tree_rules.Tail.{Tail}
use Rattle.tree_text_rules.specs.Line.{Token, Line, lines_of, tokens_of}
use Rattle.tree_text_rules.specs.LineRead.{formed, one}
use Rattle.tree_text_rules.specs.Token.{judged, count_of}
use Rattle.tree_text_rules.specs.Read.{Fault, Taken, on_line, first_line, then_read, network_taken}
use Rattle.tree_text_rules.specs.Read.{tree_taken, tail_taken}
use Rattle.tree_text_rules.specs.declared.TreeKind.{TreeKind}
use Rattle.tree_text_rules.specs.declared.TreeKind.TheVariants.{FileType, BadLine, BadNumber}
use Rattle.rank_rules.specs.Marked.{Mark}
use Rattle.rank_rules.specs.Text.{Text}
use Rattle.rank_rules.specs.Opened.{opened, marks_taken}
use Rattle.rank_rules.specs.Spelling.{file_type, count_word, distinct_word, networks_word}

-- ---- the first three lines

abbrev pub file_type_read : Line → Result (Unit {0}) TreeKind
file_type_read line =
    if line.ended then (if bytes_eq line.text file_type then Ok tt else Err FileType) else Err
    FileType

-- a word, and the one token after it
abbrev pub behind_word : {A : Type 0} → Token → (Token → Result A TreeKind) → List Token
    → Result A TreeKind
behind_word word read [] = Err BadLine
behind_word word read (token ∷ tokens) =
    if bytes_eq token word then one read tokens else Err BadLine

abbrev pub word_read : Token → Line → Result ℕ TreeKind
word_read word line = formed line (behind_word word count_of (tokens_of line))

-- how many networks were asked for, at least 1
abbrev pub count_read : Line → Result ℕ TreeKind
count_read line = judged (nat_le 1) BadNumber (word_read count_word line)

-- the line says that the text is a list of alternatives
abbrev pub is_distinct : Line → Bool
is_distinct line = line.ended && bytes_eq line.text distinct_word

-- how many are there, at most as many as were asked for
abbrev pub networks_read : ℕ → Line → Result ℕ TreeKind
networks_read count line = judged (λ k. nat_le k count) BadNumber (word_read networks_word line)

-- ---- the networks

abbrev pub with_network : Network → Result (Taken (List Network)) Fault
    → Result (Taken (List Network)) Fault
with_network w (Ok taken) =
    Ok (record { what = w ∷ taken.what; number = taken.number; behind = taken.behind })
with_network w (Err fault) = Err fault

abbrev pub networks_taken : Problem → ℕ → ℕ → List Line → Result (Taken (List Network)) Fault
networks_taken p zero number lines = Ok (record { what = []; number = number; behind = lines })
networks_taken p (suc k) number lines =
    then_read (network_taken p number lines)
    (λ w number lines. with_network w (networks_taken p k number lines))

-- ---- the tree and the tail

pub record Grown : Type 0 where
  pub tree : Tree
  pub tail : Tail

abbrev pub with_tail : Tree → Result Tail Fault → Result Grown Fault
with_tail tree (Ok tail) = Ok (record { tree = tree; tail = tail })
with_tail tree (Err fault) = Err fault

abbrev pub grown_taken : Problem → ℕ → List Line → Result Grown Fault
grown_taken p number lines =
    then_read (tree_taken p number lines)
    (λ tree number lines. with_tail tree (tail_taken p number lines))

-- the fault of the earlier line; on one line that of the tree text, in which no leaf may end there
abbrev pub earlier : Fault → Fault → Fault
earlier named other = if nat_lt named.0 other.0 then named else other

-- the ranking, if neither reading has a fault
abbrev pub put_together : ℕ → Bool → List Network → Result (List Mark) Fault → Result Grown Fault
    → Result Text Fault
put_together count distinct ws (Ok marks) (Ok grown) =
    Ok (record {
      count = count;
      distinct = distinct;
      networks = ws;
      tree = grown.tree;
      marks = marks;
      tail =
          grown.tail;
    })
put_together count distinct ws (Ok marks) (Err fault) = Err fault
put_together count distinct ws (Err fault) (Ok grown) = Err fault
put_together count distinct ws (Err fault) (Err other) = Err (earlier fault other)

abbrev pub behind_networks : Problem → ℕ → Bool → List Network → ℕ → List Line → Result Text Fault
behind_networks p count distinct ws number lines =
    put_together count distinct ws (marks_taken distinct number lines)
    (grown_taken p number (map (opened distinct) lines))

-- ---- the text

-- what is read from the line with the number of networks on
abbrev pub listed_taken : Problem → ℕ → Bool → ℕ → List Line → Result Text Fault
listed_taken p count distinct number lines =
    first_line (networks_read count) number lines (λ k lines.
    then_read (networks_taken p k (suc number) lines) (behind_networks p count distinct))

-- what is read after the line with the number of networks that were asked for
abbrev pub asked_taken : Problem → ℕ → ℕ → List Line → Result Text Fault
asked_taken p count number [] = listed_taken p count false number []
asked_taken p count number (line ∷ lines) =
    if is_distinct line then listed_taken p count true (suc number) lines
    else listed_taken p count false number (line ∷ lines)

-- all lines but the first
abbrev pub rest_taken : Problem → ℕ → List Line → Result Text Fault
rest_taken p number lines =
    first_line count_read number lines (λ count lines. asked_taken p count (suc number) lines)

abbrev pub lines_taken : Problem → List Line → Result Text Fault
lines_taken p [] = Err (1, FileType)
lines_taken p (line ∷ lines) = on_line 1 (file_type_read line) (λ read. rest_taken p 2 lines)

-- what a reader of rank texts has to answer
abbrev pub read_text : Problem → List ℕ → Result Text Fault
read_text p bytes = lines_taken p (lines_of bytes)
