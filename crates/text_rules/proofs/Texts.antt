-- Small texts to read, and what is reported of them.
use Rattle.std.proofs.Common.{◌≡◌, ◌++◌, ℕ, List, [], ◌∷◌, map, flat_map, codes, Option, Some, None}
use Rattle.std.proofs.Common.{Result, Ok, Err}
use Rattle.text_rules.specs.declared.TextKind.{TextKind}
use Rattle.problem_rules.specs.Problem.{Problem}
use Rattle.text_rules.specs.Fault.{Fault}
use Rattle.text_rules.specs.Value.{read_text}

-- each line with its line feed
abbrev pub text_of : List (List ℕ) → List ℕ
text_of lines = flat_map (λ line. line ++ 10 ∷ []) lines

-- a text with these lines after the first line
abbrev pub body : List (List ℕ) → List ℕ
body lines = text_of (codes "file_type=PNS_problem_v1" ∷ lines)

-- one line after the first line and a header, so at line 3
abbrev pub under : List ℕ → List ℕ → List ℕ
under header line = body (header ∷ line ∷ [])

abbrev pub fault_in : Result Problem Fault → Option Fault
fault_in (Ok p) = None
fault_in (Err fault) = Some fault

-- each line of the table, under this header, has this kind of fault
abbrev pub Told : List ℕ → List (List ℕ × TextKind) → Type 0
Told header rows = map (λ row. read_text (under header (row.0))) rows
    ≡ map (λ row. Err (3, row.1)) rows

-- each text of the table, after the first line, has this first fault
abbrev pub First : List (List (List ℕ) × Fault) → Type 0
First rows = map (λ row. read_text (body (row.0))) rows ≡ map (λ row. Err (row.1)) rows

-- each text of the table, after the first line, has no fault
abbrev pub Read : List (List (List ℕ)) → Type 0
Read rows = map (λ row. fault_in (read_text (body row))) rows ≡ map (λ row. None) rows
