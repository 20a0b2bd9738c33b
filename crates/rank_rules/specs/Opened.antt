-- The lines of open leaves. A line that names a network is read twice: as the line `open`, which
-- may be wherever that line may be, and for what it says of the leaf. Only a list of alternatives,
-- which is distinct, has lines that name a network that others contain.
use Rattle.std.specs.Prelude.{ℕ, ℤ, suc, Bool, true, false, ◌&&◌, List, [], ◌∷◌, ◌++◌, Option}
use Rattle.std.specs.Prelude.{Some, None}
use Rattle.std.specs.Prelude.{Result, Ok, Err, if◌then◌else◌}
use Rattle.std.specs.Str.{bytes_eq}
use Rattle.tree_text_rules.specs.Line.{Token, Line, tokens_of, fields_of, word_text}
use Rattle.tree_text_rules.specs.LineRead.{formed, one_and_more}
use Rattle.tree_text_rules.specs.Token.{both, mapped, number_of, children_of}
use Rattle.tree_text_rules.specs.Read.{Fault, on_line}
use Rattle.tree_text_rules.specs.declared.TreeKind.{TreeKind}
use Rattle.tree_text_rules.specs.declared.TreeKind.TheVariants.{BadLine}
use Rattle.tree_text_rules.specs.declared.Word.TheVariants.{Open, Unknown}
use Rattle.rank_rules.specs.declared.naming.Naming.{Naming}
use Rattle.rank_rules.specs.declared.naming.Naming.TheVariants.{Only, Within}
use Rattle.rank_rules.specs.Marked.{Mark}
use Rattle.rank_rules.specs.Spelling.{named_word, over_word}

-- the line begins with the word
abbrev pub is_first : Token → List Token → Bool
is_first word [] = false
is_first word (token ∷ tokens) = bytes_eq token word

abbrev pub begins_by : Token → Line → Bool
begins_by word line = is_first word (tokens_of line)

-- how a line names a network, if it does: it begins with `named`, or with `over`
abbrev pub way_by : Bool → Bool → Bool → Option Naming
way_by distinct named over =
    if named then Some Only else if distinct && over then Some Within else None

abbrev pub way_of : Bool → Line → Option Naming
way_of distinct line = way_by distinct (begins_by named_word line) (begins_by over_word line)

-- a line, with `open` in place of one that names a network
abbrev pub opened_by : Option Naming → Line → Line
opened_by None line = line
opened_by (Some way) line = record { text = word_text Open; ended = line.ended }

abbrev pub opened : Bool → Line → Line
opened distinct line = opened_by (way_of distinct line) line

-- the claim of a tree text that claims nothing
abbrev pub unknown_line : Line
unknown_line = record { text = word_text Unknown; ended = true }

-- the number of a network, a scale and multipliers
abbrev pub mark_with : Naming → Result ℕ TreeKind → Result (ℤ × List ℤ) TreeKind
    → Result Mark TreeKind
mark_with way number scaled =
    mapped
    (λ found. Some (record { way = way; network = found.0; d = found.1.0; ys = found.1.1 }))
    (both number scaled)

abbrev pub mark_by : Naming → List Token → Result Mark TreeKind
mark_by way [] = Err BadLine
mark_by way (token ∷ tokens) =
    mark_with way (children_of token) (one_and_more number_of number_of tokens)

abbrev pub named_read : Naming → Line → Result Mark TreeKind
named_read way line = formed line (mark_by way (fields_of line))

-- the mark of an open leaf, if the line names a network or begins with `open`
abbrev pub mark_read_by : Option Naming → Bool → Line → Option (Result Mark TreeKind)
mark_read_by (Some way) opens line = Some (named_read way line)
mark_read_by None opens line = if opens then Some (Ok None) else None

abbrev pub mark_read : Bool → Line → Option (Result Mark TreeKind)
mark_read distinct line =
    mark_read_by (way_of distinct line) (begins_by (word_text Open) line) line

-- marks before others, or the fault of the others
abbrev pub with_marks : List Mark → Result (List Mark) Fault → Result (List Mark) Fault
with_marks ms (Ok found) = Ok (ms ++ found)
with_marks ms (Err fault) = Err fault

-- what is read of a line, if it is that of an open leaf, before what the lines after it give
abbrev pub mark_before : ℕ → Option (Result Mark TreeKind) → Result (List Mark) Fault
    → Result (List Mark) Fault
mark_before number None rest = rest
mark_before number (Some read) rest = on_line number read (λ m. with_marks (m ∷ []) rest)

-- the marks of these lines, or the first fault of a line that names a network
abbrev pub marks_taken : Bool → ℕ → List Line → Result (List Mark) Fault
marks_taken distinct number [] = Ok []
marks_taken distinct number (line ∷ lines) =
    mark_before number (mark_read distinct line) (marks_taken distinct (suc number) lines)

-- marks, and what is read of the lines after them; or the first fault, if there was one before
abbrev pub so_far : List Mark → Option Fault → Result (List Mark) Fault → Result (List Mark) Fault
so_far ms None read = with_marks ms read
so_far ms (Some fault) read = Err fault

-- the bytes of a line
abbrev pub line_bytes : Line → List ℕ
line_bytes line = if line.ended then line.text ++ 10 ∷ [] else line.text
