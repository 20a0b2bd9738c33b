-- The script that a text stands for, or its first fault of form: that of the first line that has
-- one, and of the faults there the one with the least number. An empty line is skipped but counted,
-- and so is a remark.
use Rattle.std.specs.Prelude.{◌+◌, ℤ, ℕ, List, [], ◌∷◌, map, codes, Option, Some, None, Result, Ok}
use Rattle.std.specs.Prelude.{Err, pos, if◌then◌else◌}
use Rattle.std.specs.Str.{bytes_eq}
use Rattle.edit_rules.specs.Edit.{Edit, price, bounds, kind, capacity, fix, proportional}
use Rattle.edit_rules.specs.Edit.{rename_material, rename_unit, add_material, remove_material}
use Rattle.edit_rules.specs.Edit.{add_unit, remove_unit, exclude, unexclude, investment, payout}
use Rattle.edit_rules.specs.Edit.{Script}
use Rattle.text_rules.specs.problem_rules.Problem.{Kind}
use Rattle.text_rules.specs.Fault.{millionths}
use Rattle.text_rules.specs.Value.{kind_of}
use Rattle.edit_rules.specs.declared.EditKind.{EditKind}
use Rattle.edit_rules.specs.declared.EditKind.TheVariants.{FileType, BadLine}
use Rattle.edit_rules.specs.declared.Word.{Word}
use Rattle.edit_rules.specs.declared.Word.TheVariants as words
use Rattle.edit_rules.specs.ScriptFault.{Fault, least, place_of, years_of, name_fault, kind_fault}
use Rattle.edit_rules.specs.ScriptFault.{amount_fault, bound_fault, place_fault, years_fault}
use Rattle.edit_rules.specs.ScriptFault.{names_fault, members_fault}
use Rattle.edit_rules.specs.Line.{file_type, script_lines, tokens_of, word_named}
use Rattle.edit_rules.specs.Term.{Pair, sides_of, terms_fault, sides_fault, term_read}

-- what the tokens stand for, if none of them has a fault
abbrev pub told : {A : Type 0} → Option EditKind → A → Result A EditKind
told None value = Ok value
told (Some cause) value = Err cause

abbrev pub judged : {A : Type 0} → List (Option EditKind) → A → Result A EditKind
judged faults value = told (least faults) value

-- a name after the first token
abbrev pub name_read : List (List ℕ) → Result (List ℕ) EditKind
name_read (name ∷ []) = judged (name_fault name ∷ []) name
name_read fields = Err BadLine

-- an old and a new name
abbrev pub names_read : List (List ℕ) → Result (List ℕ × List ℕ) EditKind
names_read (old ∷ new ∷ []) = judged (name_fault old ∷ name_fault new ∷ []) (old, new)
names_read fields = Err BadLine

-- a name and a kind word
abbrev pub kind_read : List (List ℕ) → Result (List ℕ × Kind) EditKind
kind_read (name ∷ word ∷ []) = judged (name_fault name ∷ kind_fault word ∷ []) (name, kind_of word)
kind_read fields = Err BadLine

-- a name and an amount of either sign
abbrev pub amount_read : List (List ℕ) → Result (List ℕ × ℤ) EditKind
amount_read (name ∷ value ∷ []) =
    judged (name_fault name ∷ amount_fault value ∷ []) (name, millionths value)
amount_read fields = Err BadLine

-- a name and a fixed cost
abbrev pub fixed_read : List (List ℕ) → Result (List ℕ × ℤ) EditKind
fixed_read (name ∷ value ∷ []) =
    judged (name_fault name ∷ bound_fault value ∷ []) (name, millionths value)
fixed_read fields = Err BadLine

-- a name, a lower and an upper bound
abbrev pub bounds_read : List (List ℕ) → Result (List ℕ × (ℤ × ℤ)) EditKind
bounds_read (name ∷ lower ∷ upper ∷ []) =
    judged (name_fault name ∷ bound_fault lower ∷ bound_fault upper ∷ [])
    (name, (millionths lower, millionths upper))
bounds_read fields = Err BadLine

-- a name, a fixed and a proportional cost
abbrev pub costs_read : List (List ℕ) → Result (List ℕ × (ℤ × ℤ)) EditKind
costs_read (name ∷ fixed ∷ per_size ∷ []) =
    judged (name_fault name ∷ bound_fault fixed ∷ amount_fault per_size ∷ [])
    (name, (millionths fixed, millionths per_size))
costs_read fields = Err BadLine

abbrev pub years_read : List (List ℕ) → Result ℕ EditKind
years_read (years ∷ []) = judged (years_fault years ∷ []) (years_of years)
years_read fields = Err BadLine

abbrev pub material_read : List (List ℕ) → Result Edit EditKind
material_read (at ∷ name ∷ word ∷ value ∷ lower ∷ upper ∷ []) =
    judged (place_fault at ∷ name_fault name ∷ kind_fault word ∷ amount_fault value
    ∷ bound_fault lower ∷ bound_fault upper ∷ [])
    (add_material (place_of at) name (kind_of word) (millionths value) (millionths lower)
    (millionths upper))
material_read fields = Err BadLine

-- a unit, from the tokens before the colon and the sides after it
abbrev pub with_sides : List ℕ → List ℕ → List ℕ → List ℕ → List ℕ → List ℕ
    → Option (List Pair × List Pair) → Result Edit EditKind
with_sides at name lower upper fixed per_size (Some (inputs, outputs)) =
    judged (place_fault at ∷ name_fault name ∷ bound_fault lower ∷ bound_fault upper
    ∷ bound_fault fixed ∷ amount_fault per_size
    ∷ terms_fault inputs ∷ terms_fault outputs ∷ sides_fault inputs outputs ∷ [])
    (add_unit (place_of at) name (millionths lower) (millionths upper) (millionths fixed)
    (millionths per_size) (map term_read inputs) (map term_read outputs))
with_sides at name lower upper fixed per_size None = Err BadLine

abbrev pub unit_read : List (List ℕ) → Result Edit EditKind
unit_read (at ∷ name ∷ lower ∷ upper ∷ fixed ∷ per_size ∷ colon ∷ tokens) =
    if bytes_eq colon (codes ":") then with_sides at name lower upper fixed per_size
    (sides_of tokens) else Err BadLine
unit_read fields = Err BadLine

-- two units or more
abbrev pub exclusion_read : List (List ℕ) → Result Edit EditKind
exclusion_read (at ∷ name ∷ first ∷ second ∷ more) =
    judged (place_fault at ∷ name_fault name ∷ names_fault (first ∷ second ∷ more)
    ∷ members_fault (first ∷ second ∷ more) ∷ [])
    (exclude (place_of at) name (first ∷ second ∷ more))
exclusion_read fields = Err BadLine

-- an edit of what was read
abbrev pub edit_by : {A : Type 0} → (A → Edit) → Result A EditKind → Result Edit EditKind
edit_by edit (Ok value) = Ok (edit value)
edit_by edit (Err cause) = Err cause

-- the edit of the tokens after the first, which is the word
abbrev pub fields_read : Word → List (List ℕ) → Result Edit EditKind
fields_read words.Price fields = edit_by (λ read. price read.0 read.1) (amount_read fields)
fields_read words.Bounds fields =
    edit_by (λ read. bounds read.0 read.1.0 read.1.1) (bounds_read fields)
fields_read words.Kind fields = edit_by (λ read. kind read.0 read.1) (kind_read fields)
fields_read words.Capacity fields =
    edit_by (λ read. capacity read.0 read.1.0 read.1.1) (bounds_read fields)
fields_read words.Fix fields = edit_by (λ read. fix read.0 read.1) (fixed_read fields)
fields_read words.Proportional fields =
    edit_by (λ read. proportional read.0 read.1) (amount_read fields)
fields_read words.RenameMaterial fields =
    edit_by (λ read. rename_material read.0 read.1) (names_read fields)
fields_read words.RenameUnit fields =
    edit_by (λ read. rename_unit read.0 read.1) (names_read fields)
fields_read words.AddMaterial fields = material_read fields
fields_read words.RemoveMaterial fields = edit_by remove_material (name_read fields)
fields_read words.AddUnit fields = unit_read fields
fields_read words.RemoveUnit fields = edit_by remove_unit (name_read fields)
fields_read words.Exclude fields = exclusion_read fields
fields_read words.Unexclude fields = edit_by unexclude (name_read fields)
fields_read words.Investment fields =
    edit_by (λ read. investment read.0 read.1.0 read.1.1) (costs_read fields)
fields_read words.Payout fields = edit_by (λ read. payout (pos read)) (years_read fields)

abbrev pub worded_read : Option Word → List (List ℕ) → Result Edit EditKind
worded_read (Some word) fields = fields_read word fields
worded_read None fields = Err BadLine

abbrev pub tokens_read : List (List ℕ) → Result Edit EditKind
tokens_read [] = Err BadLine
tokens_read (word ∷ fields) = worded_read (word_named word) fields

abbrev pub line_read : List ℕ → Result Edit EditKind
line_read text = tokens_read (tokens_of text)

-- a line before others
abbrev pub with_line : ℕ → Result Edit EditKind → Result Script Fault → Result Script Fault
with_line number (Err cause) rest = Err (number, cause)
with_line number (Ok edit) (Err fault) = Err fault
with_line number (Ok edit) (Ok script) =
    Ok (record { edits = edit ∷ script.edits; lines = number ∷ script.lines })

-- lines, the first of which has this number
abbrev pub lines_read : ℕ → List (List ℕ) → Result Script Fault
lines_read number [] = Ok (record { edits = []; lines = [] })
lines_read number ([] ∷ texts) = lines_read (number + 1) texts
lines_read number ((c ∷ cs) ∷ texts) =
    with_line number (line_read (c ∷ cs)) (lines_read (number + 1) texts)

-- all lines; the first is judged separately, even if it is empty
abbrev pub text_read : List (List ℕ) → Result Script Fault
text_read [] = Err (1, FileType)
text_read (first ∷ texts) =
    if bytes_eq first file_type then lines_read 2 texts else Err (1, FileType)

-- the script that a text stands for, or its first fault of form: what a reader of scripts has to
-- answer
abbrev pub read_script : List ℕ → Result Script Fault
read_script bytes = text_read (script_lines bytes)
