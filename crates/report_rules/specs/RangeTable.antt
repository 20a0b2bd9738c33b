-- The text of a table of ranges, and its first fault. The first line has the headings, and each
-- other line is a row, up to an empty line or the end: what follows an empty line is for people.
-- Spaces separate the words of a line, however many there are.
use Rattle.std.specs.Prelude.{◌&&◌, ℕ, suc, ℤ, Bool, true, false, List, [], ◌∷◌, ◌++◌, filter}
use Rattle.std.specs.Prelude.{codes, Option, Some, None, Result, Ok, Err, if◌then◌else◌}
use Rattle.std.specs.Str.{bytes_eq}
use Rattle.rank_rules.specs.problem_rules.Problem.{Problem}
use Rattle.rank_rules.specs.text_rules.Amount.{amount_of}
use Rattle.rank_rules.specs.text_rules.declared.TextKind.{TextKind}
use Rattle.rank_rules.specs.tree_text_rules.Line.{Line, Token, lines_of, tokens_of, has_bytes}
use Rattle.rank_rules.specs.tree_text_rules.Token.{mapped, told, unit_of, material_of}
use Rattle.rank_rules.specs.tree_text_rules.Read.{Fault, on_line}
use Rattle.rank_rules.specs.tree_text_rules.declared.TreeKind.{TreeKind}
use Rattle.rank_rules.specs.tree_text_rules.declared.TreeKind.TheVariants.{BadLine, BadNumber}
use Rattle.report_rules.specs.declared.spot.Spot.{Spot}
use Rattle.report_rules.specs.declared.spot.Spot.TheVariants.{Price, Fix, Proportional}
use Rattle.report_rules.specs.declared.end.End.{End}
use Rattle.report_rules.specs.declared.end.End.TheVariants.{Value, Limit, Unknown}
use Rattle.report_rules.specs.declared.row.Row.{Row}

-- ---- words

abbrev pub words_of : Line → List Token
words_of line = filter has_bytes (tokens_of line)

abbrev pub is_first : Token → List Token → Bool
is_first word [] = false
is_first word (first ∷ rest) = bytes_eq first word

abbrev pub is_headed : List Line → Bool
is_headed [] = false
is_headed (line ∷ lines) = is_first (codes "kind") (words_of line)

-- whether a text is a table, by the first word of its first line
abbrev pub is_table : List ℕ → Bool
is_table bytes = is_headed (lines_of bytes)

pub record Cells : Type 0 where
  pub kind : Token
  pub name : Token
  pub from : Token
  pub value : Token
  pub to : Token

abbrev pub cells_in : List Token → Option Cells
cells_in (kind ∷ name ∷ from ∷ value ∷ to ∷ []) =
    Some (record { kind = kind; name = name; from = from; value = value; to = to })
cells_in words = None

-- the cells of a line that has ended
abbrev pub cells_of : Line → Result Cells TreeKind
cells_of line = if line.ended then told BadLine (cells_in (words_of line)) else Err BadLine

-- ---- a row

-- the price or the cost of this kind and name
abbrev pub spot_read : Problem → Token → Token → Result Spot TreeKind
spot_read p kind name =
    if bytes_eq kind (codes "price") then mapped Price (material_of p name)
    else if bytes_eq kind (codes "fix") then mapped Fix (unit_of p name)
    else if bytes_eq kind (codes "proportional") then mapped Proportional (unit_of p name)
    else Err BadLine

-- a number as in the text of a problem
abbrev pub known_value : Result ℤ TextKind → Result ℤ TreeKind
known_value (Ok value) = Ok value
known_value (Err kind) = Err BadNumber

abbrev pub value_read : Token → Result ℤ TreeKind
value_read token = known_value (amount_of token)

abbrev pub end_read : Token → Result End TreeKind
end_read token =
    if bytes_eq token (codes "limit") then Ok Limit
    else if bytes_eq token (codes "?") then Ok Unknown
    else mapped Value (value_read token)

-- what is read of the rest of a line, if nothing was wrong before
abbrev pub next_read : {A B : Type 0} → Result A TreeKind → (A → Result B TreeKind)
    → Result B TreeKind
next_read (Ok a) read = read a
next_read (Err kind) read = Err kind

abbrev pub row_of : Spot → ℤ → End → End → Row
row_of spot value from to = record { spot = spot; from = from; value = value; to = to }

abbrev pub cells_read : Problem → Cells → Result Row TreeKind
cells_read p cells =
    next_read (spot_read p cells.kind cells.name) (λ spot.
    next_read (value_read cells.value) (λ value.
    next_read (end_read cells.from) (λ from.
    mapped (row_of spot value from) (end_read cells.to))))

abbrev pub row_read : Problem → Line → Result Row TreeKind
row_read p line = next_read (cells_of line) (cells_read p)

-- ---- the text

abbrev pub is_heading : Cells → Bool
is_heading cells =
    bytes_eq cells.kind (codes "kind")
    && (bytes_eq cells.name (codes "name")
    && (bytes_eq cells.from (codes "from")
    && (bytes_eq cells.value (codes "now") && bytes_eq cells.to (codes "to"))))

abbrev pub are_headings : Result Cells TreeKind → Bool
are_headings (Ok cells) = is_heading cells
are_headings (Err kind) = false

abbrev pub has_headings : Line → Bool
has_headings line = are_headings (cells_of line)

abbrev pub has_no_word : List Token → Bool
has_no_word [] = true
has_no_word (word ∷ words) = false

-- the rows that come next, after those that were read
abbrev pub rows_taken : Problem → List Row → ℕ → List Line → Result (List Row) Fault
rows_taken p rows number [] = Ok rows
rows_taken p rows number (line ∷ lines) =
    if has_no_word (words_of line) then Ok rows
    else on_line number (row_read p line)
    (λ row. rows_taken p (rows ++ row ∷ []) (suc number) lines)

abbrev pub lines_taken : Problem → List Line → Result (List Row) Fault
lines_taken p [] = Err (1, BadLine)
lines_taken p (line ∷ lines) =
    if has_headings line then rows_taken p [] 2 lines else Err (1, BadLine)

-- the rows that a text stands for, or its first fault
abbrev pub read_table : Problem → List ℕ → Result (List Row) Fault
read_table p bytes = lines_taken p (lines_of bytes)
