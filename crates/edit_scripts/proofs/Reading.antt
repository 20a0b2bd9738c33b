-- Lines that are read one by one.
use Rattle.std.proofs.Common.{◌≡◌, ◌==◌, ◌+◌, ◌++◌, ℕ, false, List, [], ◌∷◌, inl, inr, length, map}
use Rattle.std.proofs.Common.{Result, Ok, Err, refl, sym, ap, ◌∙◌, append_assoc, append-nil}
use Rattle.text_lines.specs.edit_rules.Edit.{Edit, Script}
use Rattle.text_lines.specs.edit_rules.declared.EditKind.{EditKind}
use Rattle.text_lines.specs.edit_rules.declared.EditKind.TheVariants.{FileType}
use Rattle.text_lines.specs.edit_rules.ScriptFault.{Fault}
use Rattle.text_lines.specs.edit_rules.Line.{file_type}
use Rattle.text_lines.specs.edit_rules.Read.{line_read, with_line, lines_read, text_read}
use Rattle.text_lines.specs.Lines.{IsUntyped}
use Rattle.text_lines.specs.Tells.{Tells, TellsLine, fault_at}
use Rattle.text_lines.specs.declared.fault.LineFault.{LineFault}
use Rattle.text_lines.specs.declared.fault.LineFault.TheVariants as line
use Rattle.edit_scripts.specs.Walk.{with_front}
use Rattle.edit_scripts.specs.View.{edit_of}
use Rattle.edit_scripts.specs.declared.edit.Edit as declared
use Rattle.std.proofs.lemmas.Bool.{cond-false}
use Rattle.std.specs.Str.{bytes_eq}
use Rattle.std.proofs.lemmas.List.{map-append}

front_one : (edits : List Edit) (lines : List ℕ) (number : ℕ) (edit : Edit)
    (rest : Result Script Fault)
    → with_front (edits ++ edit ∷ []) (lines ++ number ∷ []) rest
    ≡ with_front edits lines (with_line number (Ok edit) rest)
front_one edits lines number edit (Err fault) = refl
front_one edits lines number edit (Ok script) =
    ap (λ (es : List Edit). Ok
    (record { edits = es; lines = (lines ++ number ∷ []) ++ script.lines }))
    (append_assoc edits (edit ∷ []) script.edits)
    ∙ ap (λ (ns : List ℕ). Ok (record { edits = edits ++ edit ∷ script.edits; lines = ns }))
    (append_assoc lines (number ∷ []) script.lines)

-- after a line with an edit
pub take_edit : (edits : List declared.Edit) (lines : List ℕ) (number : ℕ) (text : List ℕ)
    (edit : declared.Edit) (texts : List (List ℕ)) → (length text == 0) ≡ false
    → line_read text ≡ Ok (edit_of edit)
    → with_front (map edit_of (edits ++ edit ∷ [])) (lines ++ number ∷ [])
    (lines_read (number + 1) texts)
    ≡ with_front (map edit_of edits) lines (lines_read number (text ∷ texts))
take_edit edits lines number [] edit texts some good = cc
take_edit edits lines number (c ∷ cs) edit texts some good =
    ap (λ (es : List Edit). with_front es (lines ++ number ∷ []) (lines_read (number + 1) texts))
    (map-append edit_of edits (edit ∷ []))
    ∙ front_one (map edit_of edits) lines number (edit_of edit) (lines_read (number + 1) texts)
    ∙ ap
    (λ (r : Result Edit EditKind). with_front (map edit_of edits) lines
    (with_line number r (lines_read (number + 1) texts))) (sym good)

-- at a line with a fault
pub line_told : (edits : List Edit) (lines : List ℕ) (number : ℕ) (text : List ℕ)
    (fault : LineFault EditKind) (texts : List (List ℕ)) → (length text == 0) ≡ false
    → TellsLine (line_read text) fault
    → Tells (with_front edits lines (lines_read number (text ∷ texts))) (fault_at number fault)
line_told edits lines number [] fault texts some tells = cc
line_told edits lines number (c ∷ cs) line.Memory texts some tells = tt
line_told edits lines number (c ∷ cs) (line.Kind kind) texts some tells =
    ap (λ (r : Result Edit EditKind). with_front edits lines
    (with_line number r (lines_read (number + 1) texts))) tells

-- with nothing before
pub front_none : (rest : Result Script Fault) → with_front [] [] rest ≡ rest
front_none (Ok script) = refl
front_none (Err fault) = refl

pub read_to_end : (edits : List Edit) (lines : List ℕ) (number : ℕ) (texts : List (List ℕ))
    → texts ≡ [] → with_front edits lines (lines_read number texts)
    ≡ Ok (record { edits = edits; lines = lines })
read_to_end edits lines number [] e =
    ap (λ (es : List Edit). Ok (record { edits = es; lines = lines ++ [] })) (append-nil edits)
    ∙ ap (λ (ns : List ℕ). Ok (record { edits = edits; lines = ns })) (append-nil lines)
read_to_end edits lines number (text ∷ texts) e = cc

pub typed : (texts rest : List (List ℕ)) → texts ≡ file_type ∷ rest
    → text_read texts ≡ lines_read 2 rest
typed texts rest e = ap text_read e

pub untyped : (texts : List (List ℕ)) → IsUntyped file_type texts
    → text_read texts ≡ Err (1, FileType)
untyped texts (inl none) = ap text_read none
untyped texts (inr some) = ap text_read some.2
    ∙ cond-false (bytes_eq some.0 file_type) (lines_read 2 some.1) (Err (1, FileType)) some.3
