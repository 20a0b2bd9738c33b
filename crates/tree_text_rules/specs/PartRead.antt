-- The part that a text stands for, or its first fault: that of the first line that has one, with
-- its kind.
use Rattle.std.specs.Prelude.{◌≡◌, ◌⊎◌, ◌&&◌, ℕ, Bool, true, false, List, [], ◌∷◌, codes, Result}
use Rattle.std.specs.Prelude.{Ok, Err}
use Rattle.std.specs.Str.{bytes_eq}
use Rattle.edit_rules.specs.problem_rules.Problem.{Problem}
use Rattle.tree_rules.specs.Known.{AreUnits}
use Rattle.tree_rules.specs.pns_rules.Tokens.{token_of}
use Rattle.tree_text_rules.specs.Line.{Token, Line, tokens_of, is_formed, lines_of}
use Rattle.tree_text_rules.specs.Read.{Fault, Certificate, rest_taken}
use Rattle.tree_text_rules.specs.declared.TreeKind.{TreeKind}
use Rattle.tree_text_rules.specs.declared.TreeKind.TheVariants.{FileType, BadLine, BadNumber}
use Rattle.tree_text_rules.specs.Part.{Part, IsApart}
use Rattle.tree_text_rules.specs.PartSpelling.{file_type, set_line}

-- ---- the lines of the start

-- the line has its line feed and has these tokens, each with bytes
abbrev pub IsFormedAs : Line → List Token → Type 0
IsFormedAs line tokens = (is_formed line ≡ true) × (tokens_of line ≡ tokens)

-- units of the problem, none of which is among those before
abbrev pub Fits : Problem → List ℕ → List ℕ → Type 0
Fits p before units = AreUnits p units × IsApart before units

-- A line of the word and one token stands for a set if the token is that of a set that fits. With
-- any other token the number is bad. Any other line is a bad line.
abbrev pub SetLine : Problem → List ℕ → Token → Line → Result (List ℕ) TreeKind → Type 0
SetLine p before word line (Ok units) = IsFormedAs line (set_line word units) × Fits p before units
SetLine p before word line (Err BadLine) = (token : Token) → IsFormedAs line (word ∷ token ∷ []) → ⊥
SetLine p before word line (Err BadNumber) =
    (token : Token) × IsFormedAs line (word ∷ token ∷ [])
    × ((units : List ℕ) → Fits p before units → token ≡ token_of units → ⊥)
SetLine p before word line (Err kind) = ⊥

-- ---- the text

-- the first line is judged; the result is what is read of the lines after it, or its fault
abbrev pub FirstLine : (Line → Result (List ℕ) TreeKind → Type 0) → ℕ → List Line
    → (List ℕ → List Line → Result Part Fault → Type 0) → Result Part Fault → Type 0
FirstLine Judged number [] Read result = result ≡ Err (number, BadLine)
FirstLine Judged number (line ∷ lines) Read result =
    ((kind : TreeKind) × Judged line (Err kind) × (result ≡ Err (number, kind)))
    ⊎ ((units : List ℕ) × Judged line (Ok units) × Read units lines result)

-- what a tree text has after its first line, from a node on
abbrev pub with_start : List ℕ → List ℕ → Result Certificate Fault → Result Part Fault
with_start inside outside (Ok c) =
    Ok (record {
      inside = inside;
      outside = outside;
      claim = c.claim;
      tree = c.tree;
      tail =
          c.tail;
    })
with_start inside outside (Err fault) = Err fault

-- all lines but the first
abbrev pub StartReads : Problem → List Line → Result Part Fault → Type 0
StartReads p lines =
    FirstLine (SetLine p [] (codes "inside")) 2 lines (λ inside lines.
    FirstLine (SetLine p inside (codes "outside")) 3 lines (λ outside lines result.
    result ≡ with_start inside outside (rest_taken p 4 lines)))

abbrev pub is_file_type : Line → Bool
is_file_type line = line.ended && bytes_eq line.text file_type

abbrev pub BehindType : Bool → Problem → List Line → Result Part Fault → Type 0
BehindType true p lines result = StartReads p lines result
BehindType false p lines result = result ≡ Err (1, FileType)

abbrev pub LinesRead : Problem → List Line → Result Part Fault → Type 0
LinesRead p [] result = result ≡ Err (1, FileType)
LinesRead p (line ∷ lines) result = BehindType (is_file_type line) p lines result

-- what a reader of part texts has to answer
abbrev pub PartReads : Problem → List ℕ → Result Part Fault → Type 0
PartReads p bytes = LinesRead p (lines_of bytes)
