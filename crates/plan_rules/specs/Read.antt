-- The lines of a plan's text, or its first fault of form. An empty line is skipped but counted, and
-- so is a remark. A line that changes a material before a period begins is a bad line, whatever
-- else is wrong with it. A line that gives a second price or second bounds of a material in its
-- period is a double line, which is reported if nothing else is wrong with it.
use Rattle.std.specs.Prelude.{◌+◌, ◌++◌, ℕ, Bool, true, false, List, [], ◌∷◌, Result, Ok, Err}
use Rattle.std.specs.Prelude.{if◌then◌else◌}
use Rattle.std.specs.Str.{bytes_eq}
use Rattle.edit_rules.specs.problem_rules.Names.{is_among}
use Rattle.edit_rules.specs.Line.{script_lines}
use Rattle.plan_rules.specs.declared.PlanKind.{PlanKind}
use Rattle.plan_rules.specs.declared.PlanKind.TheVariants.{FileType, BadLine, DoubleLine}
use Rattle.plan_rules.specs.Line.{file_type, Entry, begins, price, bounds, line_read}

-- a line's number and a kind
abbrev pub Fault : Type 0
Fault = ℕ × PlanKind

-- a line that is not empty, with its number
pub record Line : Type 0 where
  pub number : ℕ
  pub entry : Entry

-- whether a period has begun, and the materials whose price and whose bounds it has changed so far
pub record Seen : Type 0 where
  pub started : Bool
  pub priced : List (List ℕ)
  pub bounded : List (List ℕ)

abbrev pub nothing_seen : Seen
nothing_seen = record { started = false; priced = []; bounded = [] }

abbrev pub seen_after : Seen → Entry → Seen
seen_after seen begins = record { started = true; priced = []; bounded = [] }
seen_after seen (price name value) = record seen { priced = seen.priced ++ name ∷ [] }
seen_after seen (bounds name lower upper) = record seen { bounded = seen.bounded ++ name ∷ [] }

abbrev pub is_double : Seen → Entry → Bool
is_double seen begins = false
is_double seen (price name value) = is_among seen.priced name
is_double seen (bounds name lower upper) = is_among seen.bounded name

abbrev pub is_begin : Entry → Bool
is_begin begins = true
is_begin (price name value) = false
is_begin (bounds name lower upper) = false

-- a line, judged by what was seen before it
abbrev pub placed : Seen → Result Entry PlanKind → Result Entry PlanKind
placed seen (Ok entry) =
    if is_begin entry then Ok entry
    else (if seen.started then (if is_double seen entry then Err DoubleLine else Ok entry) else Err
    BadLine)
placed seen (Err kind) = if seen.started then Err kind else Err BadLine

abbrev pub seen_past : Seen → Result Entry PlanKind → Seen
seen_past seen (Ok entry) = seen_after seen entry
seen_past seen (Err kind) = seen

-- a line before others
abbrev pub with_line : ℕ → Result Entry PlanKind → Result (List Line) Fault
    → Result (List Line) Fault
with_line number (Err kind) rest = Err (number, kind)
with_line number (Ok entry) (Err fault) = Err fault
with_line number (Ok entry) (Ok lines) = Ok (record { number = number; entry = entry } ∷ lines)

-- lines, the first of which has this number
abbrev pub lines_read : ℕ → Seen → List (List ℕ) → Result (List Line) Fault
lines_read number seen [] = Ok []
lines_read number seen ([] ∷ texts) = lines_read (number + 1) seen texts
lines_read number seen ((c ∷ cs) ∷ texts) =
    with_line number (placed seen (line_read (c ∷ cs)))
    (lines_read (number + 1) (seen_past seen (line_read (c ∷ cs))) texts)

-- all lines; the first is judged separately, even if it is empty
abbrev pub text_read : List (List ℕ) → Result (List Line) Fault
text_read [] = Err (1, FileType)
text_read (first ∷ texts) =
    if bytes_eq first file_type then lines_read 2 nothing_seen texts else Err (1, FileType)

abbrev pub read_lines : List ℕ → Result (List Line) Fault
read_lines bytes = text_read (script_lines bytes)
