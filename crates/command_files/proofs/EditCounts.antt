-- A script has at most one edit more than its text has bytes.
use Rattle.std.proofs.Common.{◌≡◌, ◌≤◌, ◌+◌, ◌-◌, ◌==◌, ℕ, suc, Bool, true, false, List, [], ◌∷◌}
use Rattle.std.proofs.Common.{Result, Ok, Err, length, take, ap, arith}
use Rattle.std.specs.Prelude.{slice_index_or, if◌then◌else◌}
use Rattle.std.specs.List.{slice_split}
use Rattle.std.specs.Str.{bytes_eq}
use Rattle.std.proofs.lemmas.List.{length-map, length-take}
use Rattle.std.proofs.lemmas.List.Splits.{length-slice_split}
use Rattle.std.proofs.lemmas.List.Sums.{count_by-le-length}
use Rattle.pns_text.specs.edit_rules.Edit.{Edit, Script}
use Rattle.pns_text.specs.text_rules.Line.{without_return, without_empty_last, without_remark}
use Rattle.pns_text.specs.edit_rules.declared.EditKind.{EditKind}
use Rattle.pns_text.specs.edit_rules.declared.EditKind.TheVariants.{FileType}
use Rattle.pns_text.specs.edit_rules.ScriptFault.{Fault}
use Rattle.pns_text.specs.edit_rules.Line.{file_type, is_feed, script_lines}
use Rattle.pns_text.specs.edit_rules.Read.{with_line, line_read, lines_read, text_read, read_script}

-- the edits of a script that was read, none of one that was not
abbrev edit_count : Result Script Fault → ℕ
edit_count (Ok s) = length s.edits
edit_count (Err fault) = 0

one_line : (number : ℕ) (read : Result Edit EditKind) (rest : Result Script Fault)
    → edit_count (with_line number read rest) ≤ suc (edit_count rest)
one_line number (Err cause) rest = omega arith
one_line number (Ok edit) (Err fault) = omega arith
one_line number (Ok edit) (Ok script) = omega arith

one_a_line : (number : ℕ) (texts : List (List ℕ))
    → edit_count (lines_read number texts) ≤ length texts
one_a_line number [] = omega arith
one_a_line number ([] ∷ texts) = let rest = one_a_line (number + 1) texts in omega (arith, rest)
one_a_line number ((c ∷ cs) ∷ texts) =
    let rest = one_a_line (number + 1) texts in
    let here = one_line number (line_read (c ∷ cs)) (lines_read (number + 1) texts) in
    omega (arith, rest, here)

behind_first : (texts : List (List ℕ)) → edit_count (text_read texts) ≤ length texts
behind_first [] = omega arith
behind_first (first ∷ texts) = at (bytes_eq first file_type)
  where
    at : (b : Bool) → edit_count (if b then lines_read 2 texts else Err (1, FileType))
        ≤ suc (length texts)
    at true = let rest = one_a_line 2 texts in omega (arith, rest)
    at false = omega arith

not_more : (b : Bool) (parts : List (List ℕ))
    → length (if b then take (length parts - 1) parts else parts) ≤ length parts
not_more true parts = let short = length-take (length parts - 1) parts in omega (arith, short)
not_more false parts = omega arith

line_count : (bytes : List ℕ) → length (script_lines bytes) ≤ length bytes + 1
line_count bytes =
    let parts : List (List ℕ) = slice_split is_feed bytes in
    let same =
    length-map (without_empty_last parts) (λ part. without_remark (without_return part)) in
    let fewer : length (without_empty_last parts) ≤ length parts =
    not_more (length (slice_index_or parts (length parts - 1) (0 ∷ [])) == 0) parts in
    let split = length-slice_split is_feed bytes in
    let feeds = count_by-le-length is_feed bytes in
    omega (arith, same, fewer, split, feeds)

pub few_edits : (bytes : List ℕ) (s : Script) → read_script bytes ≡ Ok s
    → length s.edits ≤ length bytes + 1
few_edits bytes s e =
    let read = behind_first (script_lines bytes) in
    let lines = line_count bytes in
    let same = ap edit_count e in
    omega (arith, read, lines, same)
