-- Small scripts to read, and what is reported of them.
use Rattle.std.proofs.Common.{◌≡◌, ◌++◌, ℕ, List, [], ◌∷◌, map, flat_map, codes, Ok, Err}
use Rattle.edit_rules.specs.Edit.{Edit}
use Rattle.edit_rules.specs.Formed.{script_of}
use Rattle.edit_rules.specs.declared.EditKind.{EditKind}
use Rattle.edit_rules.specs.ScriptFault.{Fault}
use Rattle.edit_rules.specs.Printed.{script_text}
use Rattle.edit_rules.specs.Read.{read_script}

-- each line with its line feed
abbrev pub text_of : List (List ℕ) → List ℕ
text_of lines = flat_map (λ line. line ++ 10 ∷ []) lines

-- these lines after the first line
abbrev pub body : List (List ℕ) → List ℕ
body lines = text_of (codes "file_type=PNS_edits_v1" ∷ lines)

-- each line of the table, at line 2, has this kind of fault
abbrev pub Told : List (List ℕ × EditKind) → Type 0
Told rows = map (λ row. read_script (body (row.0 ∷ []))) rows ≡ map (λ row. Err (2, row.1)) rows

-- each text of the table has this first fault
abbrev pub First : List (List ℕ × Fault) → Type 0
First rows = map (λ row. read_script (row.0)) rows ≡ map (λ row. Err (row.1)) rows

-- each line of the table, at line 2, is this edit
abbrev pub Reads : List (List ℕ × Edit) → Type 0
Reads rows = map (λ row. read_script (body (row.0 ∷ []))) rows
    ≡ map (λ row. Ok (script_of (row.1 ∷ []))) rows

-- each edit of the table is printed as this line
abbrev pub Prints : List (List ℕ × Edit) → Type 0
Prints rows = map (λ row. script_text (row.1 ∷ [])) rows ≡ map (λ row. body (row.0 ∷ [])) rows
