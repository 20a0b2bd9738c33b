-- Lines that follow one another rise, and there are as many as edits.
use Rattle.std.proofs.Common.{◌≡◌, ◌<◌, ◌+◌, ◌∷◌, [], ℕ, suc, List, length, refl, ap, arith}
use Rattle.text_lines.specs.problem_rules.Each.{Each}
use Rattle.text_lines.specs.edit_rules.Edit.{Edit}
use Rattle.text_lines.specs.edit_rules.Formed.{IsFormed, AreRising, IsFormedScript, lines_from}

lines_rise : (low line : ℕ) (edits : List Edit) → low < line → AreRising low (lines_from line edits)
lines_rise low line [] less = tt
lines_rise low line (edit ∷ edits) less = (less, lines_rise line (line + 1) edits (omega arith))

lines_count : (line : ℕ) (edits : List Edit) → length (lines_from line edits) ≡ length edits
lines_count line [] = refl
lines_count line (edit ∷ edits) = ap suc (lines_count (line + 1) edits)

-- the script of formed edits is formed
pub script_formed : (edits : List Edit) (lines : List ℕ) → lines ≡ lines_from 2 edits
    → Each IsFormed edits → IsFormedScript (record { edits = edits; lines = lines })
script_formed edits lines same formed =
    rw same
    (record {
      edits_formed = formed;
      one_line_each = lines_count 2 edits;
      rising =
          lines_rise 1 2 edits (omega arith);
    })
